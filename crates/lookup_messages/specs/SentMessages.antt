-- Messages while they are collected.
use Rattle.std.specs.Prelude.{◌≡◌, ◌++◌, ℕ, Bool, List, [], map}
use Rattle.std.specs.List.{flat_map}
use Rattle.field.specs.Ring.{Ring}
use Rattle.lookup_model.specs.FlagFault.{row_flag_faults, trace_flag_faults}
use Rattle.lookup_model.specs.Message.{Message}
use Rattle.lookup_model.specs.Plain.{trace_messages}
use Rattle.lookup_model.specs.Sent.{Sent}
use Rattle.lookup_messages.specs.declared.messages.SentMessage.{SentMessage}

-- the message that a value of the program holds
abbrev pub message_of : {F : Type 0} → SentMessage F → Message F
message_of m = record { key = record { id = m.id; tuple = m.tuple.items }; multiplicity = m.multiplicity }

-- those of a list
abbrev pub messages_of : {F : Type 0} → List (SentMessage F) → List (Message F)
messages_of ms = map message_of ms

-- the earlier messages stay, in front of others
abbrev pub StayInFront : {F : Type 0} → List (SentMessage F) → List (SentMessage F) → Type 0
StayInFront {F} before after = (others : List (SentMessage F)) × (after ≡ before ++ others)

module _ {F : Type 0} (R : Ring F) (eq : F → F → Bool) where
  -- After the earlier messages come those that the lookups of a row send, whose flags have no fault.
  pub record HasSentRow (row : ℕ) (before after : List (SentMessage F)) (sents : List (Sent F)) : Type 0 where
    pub messages : messages_of after ≡ messages_of before ++ flat_map (λ s. s.messages) sents
    pub faultless : row_flag_faults R eq row sents ≡ []

  -- The same for some rows.
  pub record HasSentRows (before after : List (SentMessage F)) (rows : List (List (Sent F))) : Type 0 where
    pub messages : messages_of after ≡ messages_of before ++ trace_messages rows
    pub faultless : trace_flag_faults R eq rows ≡ []

-- The messages of a batch while they are collected.
use Rattle.std.specs.Prelude.{◌≡◌, ◌<◌, ◌⊎◌, ℕ, Bool, List, [], Some, Result, MatchResult, slice_get, take}
use Rattle.std.specs.declared.alloc.Global.{Global}
use Rattle.std.specs.declared.vec.Vec.{Vec}
use Rattle.field.specs.Ring.{Ring}
use Rattle.lookup_model.specs.declared.error.LookupError.{LookupError}
use Rattle.lookup_model.specs.declared.error.LookupError.TheVariants.{Memory}
use Rattle.lookup_messages.specs.SentMessages.{HasSentRows, messages_of}
use Rattle.lookup_messages.specs.declared.messages.SentMessage.{SentMessage}
use Rattle.lookup_model.specs.Batches.Faults.{IsOutOfMemory}
use Rattle.lookup_model.specs.Batches.FlagFaults.{IsFirstFlagFault, instance_flag_faults}
use Rattle.lookup_model.specs.Batches.Instances.{Instance}
use Rattle.lookup_model.specs.Batches.Messages.{batch_messages, sent_rows_of}
use Rattle.lookup_model.specs.declared.fault.BatchFault.{BatchFault}

module _ {F : Type 0} (R : Ring F) (eq : F → F → Bool) (instance : Instance F) (before after : List (SentMessage F)) where
  -- the messages of one AIR come after the earlier ones, and its flags have no fault; or the first
  -- fault of its flags; or memory runs out
  abbrev pub PushesMessages : Result (Unit {0}) LookupError → Type 0
  PushesMessages answer = MatchResult answer
      (λ _. HasSentRows R eq before after (sent_rows_of R eq instance))
      (λ e. (e ≡ Memory) ⊎ (slice_get (instance_flag_faults R eq instance) 0 ≡ Some e))

module _ {F : Type 0} (R : Ring F) (eq : F → F → Bool) (instances : List (Instance F)) where
  -- The messages are those of the first n AIRs, whose flags have no fault.
  pub record HasMessages (n : ℕ) (messages : List (SentMessage F)) : Type 0 where
    pub messages_are : messages_of messages ≡ batch_messages R eq (take n instances)
    pub faultless : (i : ℕ) (other : Instance F) → i < n → slice_get instances i ≡ Some other → instance_flag_faults R eq other ≡ []

  -- all messages, and no fault of flags; or the first fault of flags; or memory runs out
  abbrev pub GivesMessages : Result (Vec (SentMessage F) Global) BatchFault → Type 0
  GivesMessages answer = MatchResult answer
      (λ messages. (messages_of messages.items ≡ batch_messages R eq instances)
      × ((i : ℕ) (other : Instance F) → slice_get instances i ≡ Some other → instance_flag_faults R eq other ≡ []))
      (λ fault. IsOutOfMemory fault ⊎ IsFirstFlagFault R eq instances fault)

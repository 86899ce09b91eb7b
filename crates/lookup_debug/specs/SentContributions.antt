-- What is contributed by messages that are sent.
use Rattle.std.specs.Prelude.{Bool, List, map}
use Rattle.field.specs.Ring.{Ring}
use Rattle.lookup_model.specs.Message.{Message}
use Rattle.lookup_model.specs.Sent.{Sent}
use Rattle.lookup_debug.specs.Contributions.{Contribution, SentLocation, nonzero}

-- the tuple of a message with its multiplicity, at a location
abbrev pub message_contribution : {F : Type 0} → SentLocation → Message F → Contribution F
message_contribution location m = record { tuple = m.key.tuple; amount = m.multiplicity; location = location }

-- what these messages contribute: those whose multiplicity is not zero
abbrev pub sent_contributions : {F : Type 0} → Ring F → (F → F → Bool) → SentLocation → Sent F → List (Contribution F)
sent_contributions R eq location sent = nonzero R eq (map (message_contribution location) sent.messages)

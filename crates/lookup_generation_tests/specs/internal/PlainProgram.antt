-- Nets and sums of quotients in the plain program.
use Rattle.std.specs.Prelude.{◌≡◌, Bool, false, List, map}
use Rattle.field.specs.Ring.{Ring}
use Rattle.field.specs.Sums.{sum_in}
use Rattle.field.specs.Extension.{Extension}
use Rattle.lookup_model.specs.Fault.{vanishes}
use Rattle.lookup_model.specs.Message.{Key, Message}
use Rattle.lookup_model.specs.Net.{net}
use Rattle.lookup_model.specs.Plain.{counted_messages, quotient_of}

-- a key with its net, as a message
abbrev pub net_message : {F : Type 0} → Ring F → (F → F → Bool) → List (Message F) → Key F → Message F
net_message R eq messages key = record { key = key; multiplicity = net R eq messages key }

-- f is the sum of the quotients of the counted messages, and none of their denominators vanishes
pub record IsSumOfQuotients {F K : Type 0} (E : Extension F K) (denominator : Key F → K) (ms : List (Message F)) (f : K) : Type 0 where
  pub value : f ≡ sum_in E.ring (map (quotient_of E denominator) (counted_messages E.base E.base_eq ms))
  pub divides : vanishes E denominator (counted_messages E.base E.base_eq ms) ≡ false

-- What the plain program's messages mean.
use Rattle.std.specs.Prelude.{Bool, List, None, map}
use Rattle.std.specs.List.{list_any}
use Rattle.field.specs.Extension.{Extension}
use Rattle.lookup_model.specs.Message.{Key, Message}
use Rattle.lookup_model.specs.Net.{unbalanced_keys}
use Rattle.lookup_model.specs.Sent.{Sent}
use Rattle.lookup_generation_tests.specs.declared.plain.PlainMessage.{PlainMessage}

-- a message of the program
abbrev pub as_message : {F : Type 0} → PlainMessage F → Message F
as_message m = record { key = record { id = m.id; tuple = m.tuple.items }; multiplicity = m.multiplicity }

-- a list of them
abbrev pub as_messages : {F : Type 0} → List (PlainMessage F) → List (Message F)
as_messages ms = map as_message ms

-- what an additive lookup with these messages sends
abbrev pub sent_of : {F : Type 0} → List (PlainMessage F) → Sent F
sent_of ms = record { flags = None; messages = as_messages ms }

-- whether the denominator of a key whose net is not zero is zero
abbrev pub net_vanishes : {F K : Type 0} → Extension F K → (Key F → K) → List (Message F) → Bool
net_vanishes E denominator messages = list_any (λ key. E.eq (denominator key) E.ring.zero) (unbalanced_keys E.base E.base_eq messages)

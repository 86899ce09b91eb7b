-- What a map of nets holds.
use Rattle.std.specs.Prelude.{Bool, List, map}
use Rattle.field.specs.Ring.{Ring}
use Rattle.lookup_model.specs.Message.{Key, Message}
use Rattle.lookup_model.specs.Net.{keys, net}
use Rattle.lookup_messages.specs.declared.net_map.KeyRef.{KeyRef}

-- each distinct key with its net, in the order in which the keys are first seen
abbrev pub nets_of : {F : Type 0} → Ring F → (F → F → Bool) → List (Message F) → List (Key F × F)
nets_of R eq ms = map (λ key. (key, net R eq ms key)) (keys eq ms)

-- the key that a value of the program holds
abbrev pub key_of : {F : Type 0} → KeyRef F → Key F
key_of k = record { id = k.id; tuple = k.tuple.now }

-- the entries of a map, under these keys
abbrev pub key_entries : {F : Type 0} → List (KeyRef F × F) → List (Key F × F)
key_entries es = map (λ e. (key_of e.0, e.1)) es

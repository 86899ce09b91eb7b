-- Keys and nets: how much of each key the messages send in total.
use Rattle.std.specs.Prelude.{◌≡◌, Bool, List, [], ◌∷◌, map, not}
use Rattle.std.specs.List.{filter}
use Rattle.field.specs.Ring.{Ring}
use Rattle.field.specs.Sums.{sum_in}
use Rattle.lookup_model.specs.Message.{Key, Message, same_key}

-- the items of a list, each once, in the order of their first occurrence
abbrev pub first_seen : {A : Type 0} → (A → A → Bool) → List A → List A
first_seen same [] = []
first_seen same (x ∷ xs) = x ∷ filter (λ y. not (same x y)) (first_seen same xs)

-- the distinct keys among messages
abbrev pub keys : {F : Type 0} → (F → F → Bool) → List (Message F) → List (Key F)
keys eq messages = first_seen (same_key eq) (map (λ m. m.key) messages)

-- the net of a key: the sum of the multiplicities of the messages that have it
abbrev pub net : {F : Type 0} → Ring F → (F → F → Bool) → List (Message F) → Key F → F
net R eq messages key = sum_in R (map (λ m. m.multiplicity) (filter (λ m. same_key eq key m.key) messages))

-- the keys whose net is not zero
abbrev pub unbalanced_keys : {F : Type 0} → Ring F → (F → F → Bool) → List (Message F) → List (Key F)
unbalanced_keys R eq messages = filter (λ key. not (eq (net R eq messages key) R.zero)) (keys eq messages)

-- messages balance if the net of every key is zero
abbrev pub IsBalanced : {F : Type 0} → Ring F → (F → F → Bool) → List (Message F) → Type 0
IsBalanced {F} R eq messages = (key : Key F) → net R eq messages key ≡ R.zero

-- The first item of a list with a fault, and the first number of which a property fails.
use Rattle.std.specs.Prelude.{◌≡◌, ◌<◌, ◌++◌, ℕ, List, ◌∷◌, Some, slice_get}

-- The item at an index has a fault, and all items before it are good.
pub record HasFirstFault {X : Type 0} (IsGood : X → Type 0) (IsFault : ℕ → X → Type 0) (xs : List X) : Type 0 where
  pub index : ℕ
  pub item : X
  pub is_there : slice_get xs index ≡ Some item
  pub before : (i : ℕ) (other : X) → i < index → slice_get xs i ≡ Some other → IsGood other
  pub fault : IsFault index item

-- The same of a list that is split at the item: what is good, and what is a fault, may depend on all
-- items before it.
pub record SplitsAtFault {X : Type 0} (AreGood : List X → Type 0) (IsFault : List X → X → Type 0) (xs : List X) : Type 0 where
  pub before : List X
  pub item : X
  pub after : List X
  pub split : xs ≡ before ++ item ∷ after
  pub good : AreGood before
  pub fault : IsFault before item

-- A property holds of all numbers before this one, which is below the end, and fails of this one.
pub record FailsFirstAt (Holds : ℕ → Type 0) (end n : ℕ) : Type 0 where
  pub within : n < end
  pub fails : ¬ Holds n
  pub before : (s : ℕ) → s < n → Holds s

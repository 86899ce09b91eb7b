-- The least of some entries.
use Rattle.std.specs.Prelude.{◌≡◌, ◌≢◌, ◌<◌, ℕ, Bool, true, false, List, Option, None, Some, slice_get}
use Rattle.std.specs.declared.cmp.Ordering.{Ordering}
use Rattle.std.specs.declared.cmp.Ordering.TheVariants.{Less, Greater}

module _ {A V : Type 0} (R : A → A → Ordering) (passes : V → Bool) (es : List (A × V)) (n : ℕ) where
  -- Of the first n entries that pass, the one at this index is least: the passing ones before it are
  -- greater, and none after it is less.
  pub record IsLeast (i : ℕ) : Type 0 where
    pub entry : A × V
    pub there : slice_get es i ≡ Some entry
    pub within : i < n
    pub passing : passes entry.1 ≡ true
    pub before : (j : ℕ) (e : A × V) → j < i → slice_get es j ≡ Some e → passes e.1 ≡ true → R entry.0 e.0 ≡ Less
    pub after : (j : ℕ) (e : A × V) → i < j → j < n → slice_get es j ≡ Some e → passes e.1 ≡ true → R entry.0 e.0 ≢ Greater

  -- none of the first n entries passes
  abbrev pub NonePasses : Type 0
  NonePasses = (j : ℕ) (e : A × V) → j < n → slice_get es j ≡ Some e → passes e.1 ≡ false

  -- the index of the least, or none where none passes
  abbrev pub IsBest : Option ℕ → Type 0
  IsBest None = NonePasses
  IsBest (Some i) = IsLeast i

-- The rows whose flag is not zero, and where they stand among the selected ones.
use Rattle.std.specs.Prelude.{◌≡◌, ◌≢◌, ℕ, Bool, List, Some, map, not, slice_get}
use Rattle.std.specs.List.{filter, zip}
use Rattle.field.specs.Ring.{Ring}

-- Row r, the one at index i, stands among the selected rows at the index that `indices` has at i.
pub record IsSelected (indices selected : List ℕ) (i r : ℕ) : Type 0 where
  pub at : ℕ
  pub there : slice_get indices i ≡ Some at
  pub selected_there : slice_get selected at ≡ Some r

-- the rows whose flag is not zero
abbrev pub selected_rows : {F : Type 0} → Ring F → (F → F → Bool) → List F → List ℕ → List ℕ
selected_rows R eq flags rows = map (λ p. p.1) (filter (λ p. not (eq p.0 R.zero)) (zip flags rows))

-- Each of these rows whose flag is not zero stands among the selected ones, at its index.
pub record AreSelected {F : Type 0} (R : Ring F) (flags : List F) (rows indices selected : List ℕ) : Type 0 where
  pub at : (i r : ℕ) (f : F) → slice_get rows i ≡ Some r → slice_get flags i ≡ Some f → f ≢ R.zero → IsSelected indices selected i r

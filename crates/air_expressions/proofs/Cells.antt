-- The cells that variables mean.
use Rattle.std.proofs.Common.{◌≡◌, ◌<◌, ◌≤◌, List, length, ℕ, zero, suc, Some, slice_get, slice_index_or, refl, sym, arith}
use Rattle.std.proofs.lemmas.Option.{get_or_from_slice_get, slice_get-map}
use Rattle.air_expressions.specs.Builder.{MeansRow}
use Rattle.air_expressions.specs.Meaning.{row_at}

-- a variable of a row means, at each window that is stood for, the cell at its index
pub reads_at : {V W A : Type 0} (stands_for : W → Type 0) (meaning : V → W → A) (width : ℕ) (cells : W → List A) (variables : List V) (i : ℕ) (v : V) (w : W) (none : A) → MeansRow stands_for meaning width cells variables → slice_get variables i ≡ Some v → stands_for w → meaning v w ≡ slice_index_or (cells w) i none
reads_at {V} {W} {A} stands_for meaning width cells variables i v w none row found stands =
    sym (get_or_from_slice_get (cells w) i (meaning v w) none read)
  where
    read : slice_get (cells w) i ≡ Some (meaning v w)
    read = rw (← row.reads w stands, slice_get-map, found) refl

-- the row at offset 0 or 1 means its cells, as both rows do
pub row_at_means : {V W A : Type 0} (stands_for : W → Type 0) (meaning : V → W → A) (width offset : ℕ) (cells cells_next : W → List A) (current next : List V) → offset ≤ 1 → MeansRow stands_for meaning width cells current → MeansRow stands_for meaning width cells_next next → MeansRow stands_for meaning width (λ w. row_at offset (cells w) (cells_next w)) (row_at offset current next)
row_at_means stands_for meaning width zero cells cells_next current next small here after = here
row_at_means stands_for meaning width (suc zero) cells cells_next current next small here after = after
row_at_means stands_for meaning width (suc (suc k)) cells cells_next current next small here after = absurd (omega arith)

-- an index below the width is within a row
pub within_row : {V W A : Type 0} {stands_for : W → Type 0} {meaning : V → W → A} {width : ℕ} {cells : W → List A} {variables : List V} (i : ℕ) → MeansRow stands_for meaning width cells variables → i < width → i < length variables
within_row i row below = rw row.len below

-- an index within the row at an offset other than 0 is in the next row
pub row_at_other : {V : Type 0} (offset i : ℕ) (current next : List V) → (offset ≡ 0 → ⊥) → i < length (row_at offset current next) → row_at offset current next ≡ next
row_at_other zero i current next other below = absurd (other refl)
row_at_other (suc zero) i current next other below = refl
row_at_other (suc (suc k)) i current next other below = absurd (omega arith)

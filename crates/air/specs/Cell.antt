-- The cells of a row, as expressions, and why there is none.
use Rattle.std.specs.Prelude.{◌≡◌, ◌⊎◌, ◌<◌, ℕ, List, Some, slice_get}
use Rattle.air_expressions.specs.declared.error.AirError.{AirError}
use Rattle.air_expressions.specs.declared.error.AirError.TheVariants.{LayoutMismatch, Memory}
use Rattle.air_expressions.specs.declared.error.LayoutPart.TheVariants.{Main}
use Rattle.air_expressions.specs.declared.layout.AirLayout.{AirLayout}

-- an expression whose value is this cell of the row, at each window that the builder stands for
abbrev pub IsCell : {E W F : Type 0} → (E → W → F) → (W → Type 0) → (W → List F) → ℕ → E → Type 0
IsCell {W = W} value stands cells column x = (w : W) → stands w → slice_get (cells w) column ≡ Some (value x w)

-- the refusal of a row that has fewer columns than the AIR: it names both numbers
abbrev pub IsNarrow : ℕ → ℕ → AirError → Type 0
IsNarrow width columns e = (width < columns) × (e ≡ LayoutMismatch Main columns width)

-- the refusal of a cell: the builder's own for its window, or that of a narrow row
abbrev pub IsCellRefusal : {B : Type 0} → (B → AirError → Type 0) → (B → AirLayout) → ℕ → B → AirError → Type 0
IsCellRefusal window_refuses layout columns builder e =
    window_refuses builder e ⊎ IsNarrow (layout builder).main_width columns e

-- the refusal of a list of cells: out of memory, or that of a cell
abbrev pub IsCellsRefusal : {B : Type 0} → (B → AirError → Type 0) → (B → AirLayout) → ℕ → B → AirError → Type 0
IsCellsRefusal window_refuses layout columns builder e =
    (e ≡ Memory) ⊎ IsCellRefusal window_refuses layout columns builder e

-- The permutation window that a builder hands out.
use Rattle.air_expressions.specs.Builder.{MeansRow}
use Rattle.air_expressions.specs.Window.{ExtWindow}
use Rattle.air_expressions.specs.declared.layout.AirLayout.{AirLayout}
use Rattle.matrix.specs.declared.window.WindowAccess.{Ghosts as WindowAccess}

-- A permutation window of a builder: it can be read, and its variables mean the current row of the
-- auxiliary trace and the next one.
pub record IsPermutationWindow {B F K V M : Type 0} (layout : B → AirLayout) (stands_for : B → ExtWindow F K → Type 0) (meaning : V → ExtWindow F K → K) (cells : WindowAccess M V) (builder : B) (permutation : M) : Type 0 where
  pub can_be_read : cells.readable permutation
  pub current_row : MeansRow (stands_for builder) meaning (layout builder).permutation_width (λ w. w.permutation) (cells.current permutation)
  pub next_row : MeansRow (stands_for builder) meaning (layout builder).permutation_width (λ w. w.permutation_next) (cells.next permutation)

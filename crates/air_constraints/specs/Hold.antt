-- Constraints, and the rows on which they hold.
use Rattle.std.specs.Prelude.{◌≡◌, ◌<◌, ℕ, IsFalse, IsTrue, not, List, All}
use Rattle.field.specs.Ring.{Ring}
use Rattle.air.specs.Traces.{AirTraces, height_of, window_of}
use Rattle.air_expressions.specs.declared.base_expression.SymbolicExpression.{SymbolicExpression}
use Rattle.air_expressions.specs.Meaning.{value_of}
use Rattle.air_expressions.specs.Tree.{tree_of}
use Rattle.air_expressions.specs.Window.{Window}

-- A window of a row of a trace of so many rows: every row but the last one has a next row, one row is the first
-- and the last exactly if there is no other, and a row is neither only if there are more than two.
pub record IsRowOf {F : Type 0} (height : ℕ) (w : Window F) : Type 0 where
  pub nonempty : 0 < height
  pub transition : w.is_transition ≡ not w.is_last
  pub single : height ≡ 1 → IsTrue w.is_first × IsTrue w.is_last
  pub ends : IsTrue w.is_first → IsTrue w.is_last → height ≡ 1
  pub inner : IsFalse w.is_first → IsFalse w.is_last → 2 < height

module _ {F : Type 0} (R : Ring F) where
  -- the value of an expression at a window
  abbrev pub value_at : Window F → SymbolicExpression F → F
  value_at w e = value_of R w (tree_of e)

  -- all constraints are zero at a window
  abbrev pub Hold : Window F → List (SymbolicExpression F) → Type 0
  Hold w constraints = All (λ c. value_at w c ≡ R.zero) constraints

  -- all constraints are zero on each row of traces
  abbrev pub HoldOn : AirTraces F → List (SymbolicExpression F) → Type 0
  HoldOn traces constraints = (r : ℕ) → r < height_of traces → Hold (window_of traces r) constraints

-- Constraints on fixed cells alone.
use Rattle.std.specs.Prelude.{◌≡◌, ℕ, List, Option, Some}
use Rattle.field.specs.Ring.{Ring}
use Rattle.matrix.specs.Matrix.{Matrix, height}
use Rattle.air.specs.Traces.{AirTraces, height_of}
use Rattle.air_constraints.specs.Hold.{HoldOn, value_at}
use Rattle.air_expressions.specs.declared.base_expression.SymbolicExpression.{SymbolicExpression}
use Rattle.air_expressions.specs.Window.{Window}

module _ {F : Type 0} (R : Ring F) where
  -- an expression has one value on all rows with the same preprocessed cells, of the row and of the next one
  abbrev pub ReadsFixed : SymbolicExpression F → Type 0
  ReadsFixed e =
      (v w : Window F) → v.preprocessed ≡ w.preprocessed → v.preprocessed_next ≡ w.preprocessed_next → value_at R v e ≡ value_at R w e

  -- constraints hold on all traces that have this preprocessed trace, and its height
  abbrev pub HoldOverFixed : Matrix F → List (SymbolicExpression F) → Type 0
  HoldOverFixed preprocessed constraints =
      (traces : AirTraces F) → traces.preprocessed ≡ Some preprocessed → height_of traces ≡ height preprocessed → HoldOn R traces constraints

  -- Further constraints hold on all traces of this height that have this preprocessed trace, if there is one, and on which
  -- these hold.
  abbrev pub FollowOver : Option (Matrix F) → ℕ → List (SymbolicExpression F) → List (SymbolicExpression F) → Type 0
  FollowOver preprocessed rows constraints further =
      (traces : AirTraces F) → traces.preprocessed ≡ preprocessed → height_of traces ≡ rows → HoldOn R traces constraints → HoldOn R traces further

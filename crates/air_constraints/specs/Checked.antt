-- What the check of constraints on the rows of traces tells.
use Rattle.std.specs.Prelude.{◌≡◌, ◌≢◌, ◌<◌, ℕ, List, Some, not, slice_get, take}
use Rattle.field.specs.Ring.{Ring}
use Rattle.air.specs.Traces.{AirTraces, height_of, window_of}
use Rattle.air_expressions.specs.declared.base_expression.SymbolicExpression.{SymbolicExpression}
use Rattle.air_expressions.specs.Window.{Window}
use Rattle.air_constraints.specs.Hold.{Hold, value_at}
use Rattle.air_constraints.specs.declared.check.CheckedRow.{CheckedRow}
use Rattle.air_constraints.specs.declared.check.ConstraintFault.{ConstraintFault}

-- the window of a row that is checked
abbrev pub checked_window : {F : Type 0} → CheckedRow F → Window F
checked_window row = record {
  main = row.main.current.now;
  main_next = row.main.next.now;
  preprocessed = row.preprocessed.current.now;
  preprocessed_next = row.preprocessed.next.now;
  public_values = row.public_values.now;
  is_first = row.is_first;
  is_last = row.is_last;
  is_transition = not row.is_last;
}

module _ {F : Type 0} (R : Ring F) where
  -- The constraint of this number is not zero at a window, and all constraints before it are zero there.
  pub record FailsFirst (w : Window F) (constraints : List (SymbolicExpression F)) (n : ℕ) : Type 0 where
    pub constraint : SymbolicExpression F
    pub is_there : slice_get constraints n ≡ Some constraint
    pub fails : value_at R w constraint ≢ R.zero
    pub before : Hold R w (take n constraints)

  -- The first row of traces on which a constraint is not zero, and the first such constraint on it: on every
  -- row before it all constraints are zero.
  pub record IsFirstFault (traces : AirTraces F) (constraints : List (SymbolicExpression F)) (fault : ConstraintFault) : Type 0 where
    pub row_exists : fault.row < height_of traces
    pub fails : FailsFirst (window_of traces fault.row) constraints fault.constraint
    pub before : (r : ℕ) → r < fault.row → Hold R (window_of traces r) constraints

use Rattle.std.proofs.lemmas.Result.{IfOk-from_err}
use Rattle.air.proofs.VariableRows.{rows_joined}
use Rattle.air.proofs.recording.variable_kind.variable_rows.Goals as goal

pub returns : goal.returns
returns g c = rw (c.new.ensures, c.in_ok-extend_from_slice.ensures.items, c.as_slice.ensures.value)
    (rows_joined _ _ _ _ _ _ _ c.in_ok-values.ensures c.in_ok-below.ensures)

pub returns-in_err-values : goal.returns-in_err-values
returns-in_err-values g c = IfOk-from_err _ _ c.from_residual.ensures.0

pub returns-in_err-below : goal.returns-in_err-below
returns-in_err-below g c = IfOk-from_err _ _ c.from_residual-in_err-below.ensures.0

pub returns-in_err-extend_from_slice : goal.returns-in_err-extend_from_slice
returns-in_err-extend_from_slice g c = IfOk-from_err _ _ c.from_residual-in_err-extend_from_slice.ensures.0

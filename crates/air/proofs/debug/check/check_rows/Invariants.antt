use Rattle.std.proofs.Common.{ℕ, ◌<◌, Ok}
use Rattle.air.specs.Row.{RowAnswers}
use Rattle.air.proofs.debug.check.check_rows.Given as goal

abbrev pub invariant-loop-row : goal.invariant-loop-row
invariant-loop-row g l = (r : ℕ) → r < l.row → RowAnswers g.A.Air.evaluates l.air l.inputs r (Ok tt)

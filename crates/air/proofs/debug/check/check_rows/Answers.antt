use Rattle.std.proofs.Common.{arith}
use Rattle.std.proofs.lemmas.Result.{err_from_is_err_and}
use Rattle.air.proofs.debug.check.check_rows.Goals as goal

pub returns : goal.returns
returns g c r below = c.loop-row.invariant r (omega arith)

pub returns-in_err-check_row : goal.returns-in_err-check_row
returns-in_err-check_row g c =
    let p = err_from_is_err_and c.from_residual.result c.from_residual.ensures.1 in
    rw (p.1, p.2) (c.loop-row.row, omega arith, c.in_err-check_row.ensures, c.loop-row.invariant)

use Rattle.std.proofs.Common.{arith}
use Rattle.std.proofs.lemmas.Result.{IfOk-from_err}
use Rattle.air.proofs.recording.variable_kind.variables.Goals as goal

pub returns : goal.returns
returns g c = record { len = omega (arith, c.loop-i.invariant.0); indices = c.loop-i.invariant.1 }

pub returns-in_err-all : goal.returns-in_err-all
returns-in_err-all g c = IfOk-from_err _ _ c.from_residual.ensures.0

pub returns-in_err-push : goal.returns-in_err-push
returns-in_err-push g c = IfOk-from_err _ _ c.from_residual-in_err-push.ensures.0

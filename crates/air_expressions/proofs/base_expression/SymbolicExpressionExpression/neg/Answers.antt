use Rattle.std.proofs.Common.{refl}
use Rattle.air_expressions.proofs.base_expression.SymbolicExpressionExpression.neg.Goals as goal

pub returns : goal.returns
returns g c = rw c.in_ok-inner.ensures.ok refl

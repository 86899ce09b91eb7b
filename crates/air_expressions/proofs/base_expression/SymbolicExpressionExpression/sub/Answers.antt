use Rattle.std.proofs.Common.{refl}
use Rattle.air_expressions.proofs.base_expression.SymbolicExpressionExpression.sub.Goals as goal

pub returns : goal.returns
returns g c = rw (c.in_ok-left.ensures.left, c.in_ok-left.ensures.right) refl

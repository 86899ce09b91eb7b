use Rattle.std.proofs.Common.{refl}
use Rattle.air_expressions.proofs.base_expression.SymbolicExpressionExpression.constant.Goals as goal

pub returns : goal.returns
returns g c = refl

use Rattle.std.proofs.Common.{refl}
use Rattle.air_expressions.proofs.ext_expression.ExtLeaf.copy.Goals as goal

pub returns-in-Constant : goal.returns-in-Constant
returns-in-Constant g c = rw c.in-Constant.is refl

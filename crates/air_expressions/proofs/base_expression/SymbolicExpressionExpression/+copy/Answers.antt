use Rattle.std.proofs.Common.{refl}
use Rattle.std.proofs.lemmas.Result.{IfOk-from_err}
use Rattle.air_expressions.proofs.base_expression.SymbolicExpressionExpression.+copy.Goals as goal

pub returns-in-Leaf : goal.returns-in-Leaf
returns-in-Leaf g t c = rw c.in-Leaf.is refl

pub returns-in_err-copy-in-Add : goal.returns-in_err-copy-in-Add
returns-in_err-copy-in-Add g t c = IfOk-from_err _ _ c.from_residual.ensures.0

pub returns-in_err-a-in-Add : goal.returns-in_err-a-in-Add
returns-in_err-a-in-Add g t c = IfOk-from_err _ _ c.from_residual-in_err-a-in-Add.ensures.0

pub returns-in_err-copy-in-Sub : goal.returns-in_err-copy-in-Sub
returns-in_err-copy-in-Sub g t c = IfOk-from_err _ _ c.from_residual-in_err-copy-in-Sub.ensures.0

pub returns-in_err-a-in-Sub : goal.returns-in_err-a-in-Sub
returns-in_err-a-in-Sub g t c = IfOk-from_err _ _ c.from_residual-in_err-a-in-Sub.ensures.0

pub returns-in_err-copy-in-Mul : goal.returns-in_err-copy-in-Mul
returns-in_err-copy-in-Mul g t c = IfOk-from_err _ _ c.from_residual-in_err-copy-in-Mul.ensures.0

pub returns-in_err-a-in-Mul : goal.returns-in_err-a-in-Mul
returns-in_err-a-in-Mul g t c = IfOk-from_err _ _ c.from_residual-in_err-a-in-Mul.ensures.0

pub returns-in_err-copy-in-Neg : goal.returns-in_err-copy-in-Neg
returns-in_err-copy-in-Neg g t c = IfOk-from_err _ _ c.from_residual-in_err-copy-in-Neg.ensures.0

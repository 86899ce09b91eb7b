use Rattle.std.proofs.Common.{arith, take_all}
use Rattle.std.proofs.lemmas.Result.{IfOk-from_err}
use Rattle.air_expressions.specs.Tree.{tree_of}
use Rattle.field.proofs.Items.{copied_more}
use Rattle.air_expressions.proofs.base_expression.copy_expressions.Goals as goal

pub offset_bounds-expressions-expression-index : goal.offset_bounds-expressions-expression-index
offset_bounds-expressions-expression-index g c = omega arith

pub bounds-expressions-expression-index : goal.bounds-expressions-expression-index
bounds-expressions-expression-index g c = omega arith

pub returns-in_err-copies : goal.returns-in_err-copies
returns-in_err-copies g c = IfOk-from_err _ _ c.from_residual.ensures.0

pub returns-in_err-copy : goal.returns-in_err-copy
returns-in_err-copy g c = IfOk-from_err _ _ c.from_residual-in_err-copy.ensures.0

pub returns-in_err-push : goal.returns-in_err-push
returns-in_err-push g c = IfOk-from_err _ _ c.from_residual-in_err-push.ensures.0

pub loop-expression-preserved : goal.loop-expression-preserved
loop-expression-preserved g c = rw c.in_ok-push.ensures.items
    (copied_more tree_of c.loop-expression.copies.items c.args.expressions.now c.loop-expression.expression-index c.in_ok-copy.field-0 c.expression-item.result c.loop-expression.invariant c.loop-expression-test.true c.expression-item.is c.in_ok-copy.ensures)

pub returns : goal.returns
returns g c =
    let all = take_all c.loop-expression.expression-index c.args.expressions.now c.loop-expression-test.false in
    rw all at c.loop-expression.invariant

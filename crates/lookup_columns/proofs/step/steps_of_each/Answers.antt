use Rattle.std.proofs.Common.{arith}
use Rattle.list_laws.proofs.Zips.{AllZip-all_right, AllZip-more_right}
use Rattle.lookup_columns.specs.Steps.{AreStepsOf}
use Rattle.lookup_columns.proofs.StepLaws.{all_steps_fit}
use Rattle.lookup_columns.proofs.step.steps_of_each.Goals as goal

pub loop-expression-preserved : goal.loop-expression-preserved
loop-expression-preserved g c =
    AllZip-more_right AreStepsOf _ _ c.args.expressions.now c.loop-expression.expression-index _ _ c.loop-expression-test.true c.expression-item.is c.in_ok-push.ensures.items c.in_ok-steps_of.ensures.steps c.loop-expression.invariant

pub returns-clause-steps : goal.returns-clause-steps
returns-clause-steps g c = AllZip-all_right AreStepsOf _ _ c.loop-expression.expression-index (omega (arith, c.loop-expression-test.false)) c.loop-expression.invariant

pub returns-clause-fit : goal.returns-clause-fit
returns-clause-fit g c = λ layout.
    all_steps_fit layout c.loop-expression.all.items c.args.expressions.now
    (AllZip-all_right AreStepsOf _ _ c.loop-expression.expression-index (omega (arith, c.loop-expression-test.false)) c.loop-expression.invariant)

use Rattle.std.proofs.Common.{◌↔◌, List, subst, arith}
use Rattle.std.proofs.lemmas.List.{take_all}
use Rattle.std.proofs.lemmas.List.Elements.{All-nil}
use Rattle.air_expressions.specs.Layout.{Fits}
use Rattle.air_expressions.specs.Tree.{tree_of}
use Rattle.lookup_model.specs.Records.{AllFit}
use Rattle.batch.proofs.ReachLaws.{all_more, one_more}
use Rattle.batch.specs.Reaches.{StaysWithin}
use Rattle.batch.proofs.reach.Reach.with_all.Goals as goal

pub loop-expression-init : goal.loop-expression-init
unfolding AllFit
loop-expression-init g c = λ layout. (λ s. (s, All-nil (λ e. Fits layout (tree_of e))), λ t. t.0)

pub loop-expression-preserved : goal.loop-expression-preserved
unfolding AllFit
loop-expression-preserved g c = λ layout.
    one_more (c.add_expression.ensures layout)
    (all_more (λ e. Fits layout (tree_of e)) c.args.expressions.now c.loop-expression.expression-index c.expression-item.result c.loop-expression-test.true c.expression-item.is)
    (c.loop-expression.invariant layout)

pub returns : goal.returns
returns g c = λ layout.
    subst (λ (es : List _). StaysWithin c.loop-expression.reach layout ↔ (StaysWithin c.args.self layout × AllFit layout es)) (take_all c.loop-expression.expression-index c.args.expressions.now (omega (arith, c.loop-expression-test.false))) (c.loop-expression.invariant layout)

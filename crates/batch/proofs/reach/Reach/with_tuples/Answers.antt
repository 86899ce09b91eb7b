use Rattle.std.proofs.Common.{◌↔◌, All, List, subst, arith}
use Rattle.std.proofs.lemmas.List.{take_all}
use Rattle.lookup_model.specs.Records.{AllFit}
use Rattle.batch.proofs.ReachLaws.{all_more, one_more}
use Rattle.batch.specs.Reaches.{StaysWithin}
use Rattle.batch.proofs.reach.Reach.with_tuples.Goals as goal

pub loop-tuple-preserved : goal.loop-tuple-preserved
loop-tuple-preserved g c = λ layout.
    one_more (subst (λ (es : List _). StaysWithin c.with_all-reach.result layout ↔ (StaysWithin c.loop-tuple.reach layout × AllFit layout es)) c.deref.ensures.value (c.with_all-reach.ensures layout))
    (all_more (λ tuple. AllFit layout tuple.items) c.args.tuples.now c.loop-tuple.tuple-index c.tuple-item.result c.loop-tuple-test.true c.tuple-item.is)
    (c.loop-tuple.invariant layout)

pub returns : goal.returns
returns g c = λ layout.
    subst (λ (ts : List _). StaysWithin c.loop-tuple.reach layout ↔ (StaysWithin c.args.self layout × All (λ tuple. AllFit layout tuple.items) ts)) (take_all c.loop-tuple.tuple-index c.args.tuples.now (omega (arith, c.loop-tuple-test.false))) (c.loop-tuple.invariant layout)

use Rattle.std.proofs.Common.{◌↔◌, All, List, subst, arith}
use Rattle.std.proofs.lemmas.List.{take_all}
use Rattle.lookup_model.specs.Records.{IsWithin}
use Rattle.batch.proofs.ReachLaws.{all_more, one_more_alone}
use Rattle.batch.specs.Reaches.{StaysWithin}
use Rattle.batch.proofs.reach.Reach.of_lookups.Goals as goal

pub loop-lookup-preserved : goal.loop-lookup-preserved
loop-lookup-preserved g c = λ layout.
    one_more_alone (c.with_lookup-reach.ensures layout)
    (all_more (IsWithin layout) c.args.lookups.now c.loop-lookup.lookup-index c.lookup-item.result c.loop-lookup-test.true c.lookup-item.is)
    (c.loop-lookup.invariant layout)

pub returns : goal.returns
returns g c = λ layout.
    subst (λ (ls : List _). StaysWithin c.loop-lookup.reach layout ↔ All (IsWithin layout) ls) (take_all c.loop-lookup.lookup-index c.args.lookups.now (omega (arith, c.loop-lookup-test.false))) (c.loop-lookup.invariant layout)

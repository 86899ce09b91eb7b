use Rattle.list_laws.proofs.Each.{All-at}
use Rattle.list_laws.proofs.Zips.{AllZip-more}
use Rattle.check_judge.specs.Airs.{IsFittingAir}
use Rattle.check_judge.specs.Constraints.{over_constrained}
use Rattle.check_judge.specs.Enforced.{IsEnforcedOver}
use Rattle.check_judge.proofs.enforced.enforced_over.Goals as goal

pub enforced_over_fixed-requires : goal.enforced_over_fixed-requires
enforced_over_fixed-requires g c = All-at IsFittingAir c.args.airs.now c.loop-index.index c.index-airs-index.result c.requires c.loop-index-test.true c.index-airs-index.is

pub loop-index-preserved : goal.loop-index-preserved
loop-index-preserved g c =
    let air = c.index-airs-index.result in
    AllZip-more (λ x found. IsEnforcedOver g.F.PrimeCharacteristicRing.ring g.F.PartialEq.eq (over_constrained x) found) c.args.airs.now c.loop-index.enforced.items _ c.loop-index.index _ air c.in_ok-enforced_over_fixed.field-0 c.loop-index-test.true c.index-airs-index.is c.in_ok-push.ensures.items
    c.in_ok-enforced_over_fixed.ensures c.loop-index.invariant

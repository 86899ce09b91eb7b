use Rattle.std.proofs.Common.{List, subst}
use Rattle.list_laws.proofs.Zips.{AllZip-more_right}
use Rattle.lookup.specs.Lookups.{lookups_of}
use Rattle.batch.specs.Reaches.{IsReachOf}
use Rattle.batch.proofs.reach.reaches_of.Goals as goal

pub loop-air-preserved : goal.loop-air-preserved
loop-air-preserved g c =
    AllZip-more_right (λ reach air. IsReachOf reach (lookups_of air)) _ _ c.args.airs.now c.loop-air.air-index c.of_lookups.result c.air-item.result c.loop-air-test.true c.air-item.is c.in_ok-push.ensures.items
    (subst (λ (ls : List _). IsReachOf c.of_lookups.result ls) c.as_slice.ensures.lookups c.of_lookups.ensures) c.loop-air.invariant

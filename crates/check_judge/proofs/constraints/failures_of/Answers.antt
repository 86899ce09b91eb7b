use Rattle.std.proofs.Common.{subst, sym}
use Rattle.list_laws.proofs.Zips.{AllZip-more}
use Rattle.check_judge.specs.Airs.{IsFittingAir}
use Rattle.check_judge.specs.Constraints.{IsChecked, over_constrained}
use Rattle.check_judge.proofs.constraints.failures_of.Goals as goal

pub failure_of-requires : goal.failure_of-requires
failure_of-requires g c = subst IsFittingAir (sym c.index-airs-index.is) (c.requires c.loop-index.index c.index-airs-index.result c.loop-index-test.true)

pub loop-index-preserved : goal.loop-index-preserved
loop-index-preserved g c =
    AllZip-more (λ air found. IsChecked g.F.PrimeCharacteristicRing.ring (over_constrained air) found) c.args.airs.now c.loop-index.failures.items _ c.loop-index.index _ c.index-airs-index.result c.failure_of.result c.loop-index-test.true c.index-airs-index.is c.in_ok-push.ensures.items c.failure_of.ensures c.loop-index.invariant

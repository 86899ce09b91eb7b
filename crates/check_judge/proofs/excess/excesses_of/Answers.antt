use Rattle.std.proofs.Common.{subst, sym}
use Rattle.list_laws.proofs.Zips.{AllZip-more}
use Rattle.check_judge.specs.Airs.{IsFittingAir}
use Rattle.check_judge.specs.Constraints.{over_constrained}
use Rattle.check_judge.specs.Excesses.{AreExcesses}
use Rattle.check_judge.proofs.excess.excesses_of.Goals as goal

pub excesses_of_air-requires : goal.excesses_of_air-requires
excesses_of_air-requires g c = subst IsFittingAir (sym c.index-airs-index.is) (c.requires c.loop-index.index c.index-airs-index.result c.loop-index-test.true)

pub loop-index-preserved : goal.loop-index-preserved
loop-index-preserved g c =
    AllZip-more (λ air found. AreExcesses g.F.PrimeCharacteristicRing.CHARACTERISTIC g.F.SignedField.number g.F.PrimeCharacteristicRing.ring g.F.PartialEq.eq (over_constrained air) found.items) c.args.airs.now c.loop-index.excesses.items _ c.loop-index.index _ c.index-airs-index.result c.in_ok-found.found c.loop-index-test.true c.index-airs-index.is c.in_ok-push.ensures.items c.in_ok-found.ensures c.loop-index.invariant

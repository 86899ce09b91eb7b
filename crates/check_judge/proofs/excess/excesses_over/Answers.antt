use Rattle.std.proofs.Common.{map, subst}
use Rattle.list_laws.proofs.Zips.{AllZip-more}
use Rattle.air.specs.Traces.{traces_of}
use Rattle.check_judge.specs.Counts.{counts_for}
use Rattle.check_judge.specs.Excesses.{IsExcessFound}
use Rattle.check_judge.proofs.excess.excesses_over.Goals as goal

pub loop-index-preserved : goal.loop-index-preserved
loop-index-preserved g c =
    let lookup = c.index-lookups-index.result in
    let Finds = IsExcessFound g.F.PrimeCharacteristicRing.CHARACTERISTIC g.F.SignedField.number g.F.PrimeCharacteristicRing.ring g.F.PartialEq.eq (traces_of c.args.traces.now) in
    AllZip-more (λ l found. Finds l (counts_for (map (λ c. c.items) c.args.counts.now) l.column) found) c.args.lookups.now c.loop-index.excesses.items _ c.loop-index.index _ lookup c.first_excess.result c.loop-index-test.true c.index-lookups-index.is c.in_ok-push.ensures.items
    (subst (λ cs. Finds lookup cs c.first_excess.result) c.counts_at-said.ensures c.first_excess.ensures) c.loop-index.invariant

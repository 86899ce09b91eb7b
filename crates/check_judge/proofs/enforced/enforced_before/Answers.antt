use Rattle.std.proofs.Common.{◌≡◌, map, subst}
use Rattle.list_laws.proofs.Zips.{AllZip-more}
use Rattle.check_judge.specs.Enforced.{Asserted, IsEnforcedAir}
use Rattle.check_judge.specs.internal.Asserted.{asserted_air_of}
use Rattle.check_judge.proofs.enforced.enforced_before.Goals as goal

pub loop-index-preserved : goal.loop-index-preserved
loop-index-preserved g c =
    let air = c.index-airs-index.result in
    let given : Asserted _ = record { lookups = c.as_slice-lookups.result.now; constraints = c.deref.result.now; counts = map (λ v. v.items) c.deref-in-loop-index.result.now; height = air.height } in
    let same : given ≡ asserted_air_of air = λ k. record { lookups = c.as_slice-lookups.ensures.lookups k; constraints = c.deref.ensures.value k; counts = map (λ v. v.items) (c.deref-in-loop-index.ensures.value k); height = air.height } in
    AllZip-more (λ x found. IsEnforcedAir g.F.PrimeCharacteristicRing.ring g.F.PartialEq.eq (asserted_air_of x) found) c.args.airs.now c.loop-index.enforced.items _ c.loop-index.index _ air c.in_ok-shown.shown c.loop-index-test.true c.index-airs-index.is c.in_ok-push.ensures.items
    (subst (λ x. IsEnforcedAir g.F.PrimeCharacteristicRing.ring g.F.PartialEq.eq x c.in_ok-shown.shown) same c.in_ok-shown.ensures) c.loop-index.invariant

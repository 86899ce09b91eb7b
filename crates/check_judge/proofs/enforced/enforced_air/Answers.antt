use Rattle.std.proofs.Common.{ap, arith, length, map, subst}
use Rattle.std.proofs.lemmas.Slice.Zip.{AllZip-long}
use Rattle.std.specs.List.{AllZip, zip}
use Rattle.check_judge.specs.Counts.{counts_for, queries_of}
use Rattle.check_judge.specs.Enforced.{IsWeightShown}
use Rattle.check_judge.proofs.enforced.enforced_air.Goals as goal

pub weights_kept-requires : goal.weights_kept-requires
weights_kept-requires g c = omega (arith, AllZip-long _ c.args.lookups.now c.in_ok-shown.shown.items c.in_ok-shown.ensures, ap length c.as_slice.ensures.value)

pub returns : goal.returns
returns g c = record {
  lookups = c.in_ok-shown.ensures;
  weights = subst (λ es. AllZip (λ p kept. IsWeightShown g.F.PrimeCharacteristicRing.ring g.F.PartialEq.eq p.0 p.1 (queries_of (counts_for (map (λ v. v.items) c.args.counts.now) p.0.column)) kept) (zip c.args.lookups.now es) c.in_ok-weights.weights.items) c.as_slice.ensures.value c.in_ok-weights.ensures;
}

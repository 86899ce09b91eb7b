use Rattle.std.proofs.Common.{◌≡◌, ap, ◌∙◌, arith}
use Rattle.air_constraints.specs.Polynomials.{sum_at}
use Rattle.air_constraints.proofs.RecogniseLaws.{item-of-all, nothing}
use Rattle.air_constraints.proofs.zeros.is_zero.Goals as goal

pub returns-then-terms-eq0 : goal.returns-then-terms-eq0
returns-then-terms-eq0 g c = λ t w so. nothing g.F.PrimeCharacteristicRing.lawful g.met.F.Domain.domain w c.args.terms.now (omega (arith, c.if-terms-eq0.true))

pub returns-then-same : goal.returns-then-same
returns-then-same g c = λ t w so.
    let R = g.F.PrimeCharacteristicRing.ring in
    let here = item-of-all (λ z. sum_at R w z.items ≡ R.zero) c.args.facts.now.zeros.items _ c.loop-zero.zero-index c.zero-item.result c.deref-zero-items.ensures.value so.zeros c.loop-zero-test.true c.zero-item.is in
    c.in_ok-same.ensures c.if-same.true w so (ap (sum_at R w) c.as_slice.ensures.value ∙ here)

use Rattle.std.proofs.Common.{◌≡◌, ap, ◌∙◌}
use Rattle.air_constraints.specs.Polynomials.{sum_at}
use Rattle.air_constraints.proofs.RecogniseLaws.{item-of-all}
use Rattle.air_constraints.proofs.zeros.is_bit.Goals as goal

pub returns-then-above : goal.returns-then-above
returns-then-above g c = λ t w so.
    let R = g.F.PrimeCharacteristicRing.ring in
    let here = item-of-all (λ z. sum_at R w z.items ≡ R.zero) c.args.facts.now.zeros.items _ c.loop-zero.zero-index c.zero-item.result c.deref-zero-items.ensures.value so.zeros c.loop-zero-test.true c.zero-item.is in
    c.in_ok-above.ensures c.if-above.true w so (ap (sum_at R w) c.as_slice-other.ensures.value ∙ here)

pub returns-then-below : goal.returns-then-below
returns-then-below g c = λ t w so.
    let R = g.F.PrimeCharacteristicRing.ring in
    let here = item-of-all (λ z. sum_at R w z.items ≡ R.zero) c.args.facts.now.zeros.items _ c.loop-zero.zero-index c.zero-item.result c.deref-zero-items.ensures.value so.zeros c.loop-zero-test.true c.zero-item.is in
    c.in_ok-below.ensures c.if-below.true w so (ap (sum_at R w) c.as_slice-other.ensures.value ∙ here)

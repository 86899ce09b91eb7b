use Rattle.std.proofs.Common.{◌≡◌, ap, ◌∙◌}
use Rattle.air_constraints.specs.Polynomials.{sum_at}
use Rattle.air_constraints.proofs.RecogniseLaws.{item-of-all}
use Rattle.air_constraints.proofs.zero_products.more_zero_products.Goals as goal

pub loop-zero-preserved : goal.loop-zero-preserved
loop-zero-preserved g c = λ w so.
    let R = g.F.PrimeCharacteristicRing.ring in
    let here = item-of-all (λ z. sum_at R w z.items ≡ R.zero) c.args.facts.now.zeros.items _ c.loop-zero.zero-index c.zero-item.result c.deref-zero-items.ensures.value so.zeros c.loop-zero-test.true c.zero-item.is in
    c.in_ok-push_zero_products.ensures w so (ap (sum_at R w) c.as_slice.ensures.value ∙ here) (c.loop-zero.invariant w so)

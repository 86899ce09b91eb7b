use Rattle.std.proofs.Common.{take_all, sym, ap, ◌∙◌}
use Rattle.field.specs.laws.RingFacts.{zero_mul}
use Rattle.air_constraints.specs.Polynomials.{product_at, sum_at}
use Rattle.air_constraints.proofs.SumLaws.{product-more}
use Rattle.air_constraints.proofs.polynomial.product_of.Goals as goal

pub loop-term-init : goal.loop-term-init
loop-term-init g c = λ w so. ap (sum_at g.F.PrimeCharacteristicRing.ring w) c.new-product.ensures.items ∙ sym (zero_mul g.F.PrimeCharacteristicRing.lawful (sum_at g.F.PrimeCharacteristicRing.ring w c.args.b.now))

pub loop-term-preserved : goal.loop-term-preserved
loop-term-preserved g c = λ w so.
    let R = g.F.PrimeCharacteristicRing.ring in
    let s = sum_at R w c.args.b.now in
    let t = c.term-item.result in
    let before = sum_at R w c.loop-term.product.items in
    product-more g.F.PrimeCharacteristicRing.lawful w c.args.a.now c.loop-term.term-index t s before _
    c.loop-term-test.true c.term-item.is (c.loop-term.invariant w so) (c.in_ok-add_multiple.ensures w so ∙ ap (λ xs. R.add (R.mul (R.mul t.coefficient (product_at R w xs)) s) before) c.as_slice.ensures.value)

pub returns : goal.returns
returns g c = λ w so.
    let R = g.F.PrimeCharacteristicRing.ring in
    let all = take_all c.loop-term.term-index c.args.a.now c.loop-term-test.false in
    c.loop-term.invariant w so ∙ ap (λ xs. R.mul (sum_at R w xs) (sum_at R w c.args.b.now)) all

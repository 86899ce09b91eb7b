use Rattle.std.proofs.Common.{take_all, ap, ◌∙◌}
use Rattle.air_constraints.specs.Polynomials.{product_at, sum_at}
use Rattle.air_constraints.proofs.SumLaws.{multiple-more, multiple-none}
use Rattle.air_constraints.proofs.polynomial.add_multiple.Goals as goal

pub loop-term-init : goal.loop-term-init
loop-term-init g c = λ w so. multiple-none g.F.PrimeCharacteristicRing.lawful w _ _

pub loop-term-preserved : goal.loop-term-preserved
loop-term-preserved g c = λ w so.
    let R = g.F.PrimeCharacteristicRing.ring in
    multiple-more g.F.PrimeCharacteristicRing.lawful w (R.mul c.args.by (product_at R w c.args.cells.now)) c.args.terms.now c.loop-term.term-index c.term-item.result
    (sum_at R w c.args.sum.now.items) _ _ c.loop-term-test.true c.term-item.is (c.loop-term.invariant w so) (c.in_ok-add_product.ensures w so)

pub returns : goal.returns
returns g c = λ w so.
    let R = g.F.PrimeCharacteristicRing.ring in
    let all = take_all c.loop-term.term-index c.args.terms.now c.loop-term-test.false in
    c.loop-term.invariant w so ∙ ap (λ xs. R.add (R.mul (R.mul c.args.by (product_at R w c.args.cells.now)) (sum_at R w xs)) (sum_at R w c.args.sum.now.items)) all

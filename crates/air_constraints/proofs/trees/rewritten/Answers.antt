use Rattle.std.proofs.Common.{ap, ◌∙◌}
use Rattle.air_constraints.specs.Polynomials.{product_at, sum_at}
use Rattle.air_constraints.proofs.SumLaws.{sum-more}
use Rattle.air_constraints.proofs.trees.rewritten.Goals as goal

pub loop-term-preserved : goal.loop-term-preserved
loop-term-preserved g c = λ w so.
    let R = g.F.PrimeCharacteristicRing.ring in
    let one_is = c.ONE.ensures ∙ g.met.F.PrimeCharacteristicRing.one_is in
    let t = c.term-item.result in
    sum-more g.F.PrimeCharacteristicRing.lawful w c.args.terms.now c.loop-term.term-index t _ _ _ _ c.loop-term-test.true c.term-item.is (c.loop-term.invariant w so) one_is
    (ap (sum_at R w) c.as_slice.ensures.value ∙ c.in_ok-product.ensures w so ∙ ap (λ xs. R.mul t.coefficient (product_at R w xs)) c.as_slice-cells.ensures.value) (c.in_ok-sum.ensures w so)

use Rattle.std.proofs.Common.{sym, take_all, ap, ap₂, ◌∙◌}
use Rattle.air_constraints.specs.Polynomials.{product_at, sum_at}
use Rattle.air_constraints.proofs.ProductLaws.{item_is, product-more}
use Rattle.air_constraints.proofs.trees.rewritten_product.Goals as goal

pub loop-cell-init : goal.loop-cell-init
loop-cell-init g c = λ w so.
    c.in_ok-product.ensures w ∙ sym (g.F.PrimeCharacteristicRing.lawful.mul_one c.args.coefficient)

pub loop-cell-preserved : goal.loop-cell-preserved
loop-cell-preserved g c = λ w so.
    let R = g.F.PrimeCharacteristicRing.ring in
    let laws = g.F.PrimeCharacteristicRing.lawful in
    let cells = c.args.cells.now in
    let i = c.loop-cell.cell-index in
    let before = sum_at R w c.loop-cell.product.items in
    product-more laws w c.args.coefficient cells i _ before _ c.loop-cell-test.true (item_is cells i _ c.loop-cell-test.true) (c.loop-cell.invariant w so)
    (c.in_ok-product-2.ensures w so
    ∙ ap₂ R.mul (ap (sum_at R w) c.as_slice.ensures.value) (ap (sum_at R w) c.as_slice-in-loop-cell.ensures.value ∙ c.in_ok-of.ensures w so)
    ∙ laws.mul_comm before _)

pub returns : goal.returns
returns g c = λ w so.
    let R = g.F.PrimeCharacteristicRing.ring in
    c.loop-cell.invariant w so ∙ ap (λ xs. R.mul c.args.coefficient (product_at R w xs)) (take_all c.loop-cell.cell-index c.args.cells.now c.loop-cell-test.false)

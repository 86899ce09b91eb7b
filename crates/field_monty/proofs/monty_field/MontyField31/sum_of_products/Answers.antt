use Rattle.std.proofs.Common.{arith, ◌∙◌}
use Rattle.field_monty.proofs.Montgomery.{four_products}
use Rattle.field.specs.ResidueRing.{residue_ring}
use Rattle.field_monty.proofs.monty_field.MontyField31.sum_of_products.Goals as goal

pub returns : goal.returns
returns g c =
    let times = (residue_ring g.row.P g.K.MontyParameters.positive).mul in
    let a = c.args in
    c.from_stored.ensures
    ∙ four_products g.K.MontyParameters.positive g.K.MontyParameters.right c.stored_product.result c.stored_product-2.result c.stored_product-3.result c.stored_product-4.result c.reduce_wide.result
    (times a.x.0 a.x.1) (times a.y.0 a.y.1) (times a.z.0 a.z.1) (times a.w.0 a.w.1) c.reduce_wide.ensures.value
    c.stored_product.ensures.value c.stored_product-2.ensures.value c.stored_product-3.ensures.value c.stored_product-4.ensures.value

pub overflow_add-front : goal.overflow_add-front
overflow_add-front g c = omega (arith, g.K.MontyParameters.right.small, c.stored_product.ensures.below, c.stored_product-2.ensures.below)

pub overflow_add-back : goal.overflow_add-back
overflow_add-back g c = omega (arith, g.K.MontyParameters.right.small, c.stored_product-3.ensures.below, c.stored_product-4.ensures.below)

pub overflow_add-front-2 : goal.overflow_add-front-2
overflow_add-front-2 g c = omega (arith, g.K.MontyParameters.right.small, c.stored_product.ensures.below, c.stored_product-2.ensures.below, c.stored_product-3.ensures.below, c.stored_product-4.ensures.below)

pub reduce_wide-requires : goal.reduce_wide-requires
reduce_wide-requires g c = omega (arith, c.stored_product.ensures.below, c.stored_product-2.ensures.below, c.stored_product-3.ensures.below, c.stored_product-4.ensures.below)

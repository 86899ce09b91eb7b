use Rattle.std.proofs.Common.{ap₂, ◌∙◌, arith}
use Rattle.field.specs.Residue.{Residue, residue_of}
use Rattle.field_monty.specs.internal.Four.{Four, same_four}
use Rattle.field_monty.specs.internal.Lanes.{lanes_ring}
use Rattle.field_monty.proofs.LaneProducts.{each_below, products_below, products_value}
use Rattle.field_monty.proofs.lanes.Lanes.products.Goals as goal

pub even_products-requires-clause-a : goal.even_products-requires-clause-a
even_products-requires-clause-a g c = each_below g.row.P 2147483648 (omega (arith, g.K.MontyParameters.right.small)) c.vector-a.result c.vector-a.ensures.stored.below

pub even_products-requires-clause-b : goal.even_products-requires-clause-b
even_products-requires-clause-b g c = each_below g.row.P 2147483648 (omega (arith, g.K.MontyParameters.right.small)) c.vector-b.result c.vector-b.ensures.stored.below

pub odd_products-requires-clause-a : goal.odd_products-requires-clause-a
odd_products-requires-clause-a g c = each_below g.row.P 2147483648 (omega (arith, g.K.MontyParameters.right.small)) c.vector-a.result c.vector-a.ensures.stored.below

pub odd_products-requires-clause-b : goal.odd_products-requires-clause-b
odd_products-requires-clause-b g c = each_below g.row.P 2147483648 (omega (arith, g.K.MontyParameters.right.small)) c.vector-b.result c.vector-b.ensures.stored.below

pub returns-clause-below : goal.returns-clause-below
returns-clause-below g c =
    products_below g.K.MontyParameters.positive g.K.MontyParameters.right c.vector-a.result c.vector-b.result c.even_products.result c.odd_products.result c.vector-a.ensures.stored c.vector-b.ensures.stored c.even_products.ensures c.odd_products.ensures

pub returns-clause-value : goal.returns-clause-value
returns-clause-value g c =
    let positive = g.K.MontyParameters.positive in
    products_value positive g.K.MontyParameters.right c.vector-a.result c.vector-b.result c.even_products.result c.odd_products.result c.even_products.ensures c.odd_products.ensures
    ∙ ap₂ (λ (x y : Four (Residue g.row.P)). (lanes_ring g.row.P positive).mul (same_four (residue_of g.row.P positive 4294967296)) ((lanes_ring g.row.P positive).mul x y)) c.vector-a.ensures.value c.vector-b.ensures.value

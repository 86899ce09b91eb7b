use Rattle.std.proofs.Common.{ap, ◌∙◌}
use Rattle.field_monty.specs.Montgomery.{from_stored}
use Rattle.field.specs.Residue.{residue_of}
use Rattle.field_monty.specs.internal.Four.{map_four, same_four}
use Rattle.field_monty.specs.internal.Lanes.{lanes_ring}
use Rattle.field_monty.proofs.LaneProducts.{lanes_reduced, multiples, taken_below}
use Rattle.field_monty.proofs.lanes.Lanes.reduce.Goals as goal

pub difference-requires-clause-b : goal.difference-requires-clause-b
difference-requires-clause-b g c =
    taken_below g.K.MontyParameters.positive c.products.inside.even c.products.inside.odd c.MODULUS_INVERSE.result c.MODULUS_INVERSE-2.result c.multiple.result c.multiple-2.result c.high-taken.result
    c.multiple.ensures c.multiple-2.ensures c.high-taken.ensures

pub returns : goal.returns
returns g c =
    let p = g.row.P in
    let positive = g.K.MontyParameters.positive in
    let even = c.products.inside.even in
    let odd = c.products.inside.odd in
    c.from_vector.ensures
    ∙ lanes_reduced positive g.K.MontyParameters.right even odd c.high.result c.reduce_once-high_halves.result c.multiple.result c.multiple-2.result c.high-taken.result c.difference.result
    c.high.ensures c.reduce_once-high_halves.ensures (c.multiple.ensures ∙ ap (λ m. multiples m p even) c.MODULUS_INVERSE.ensures)
    (c.multiple-2.ensures ∙ ap (λ m. multiples m p odd) c.MODULUS_INVERSE-2.ensures) c.high-taken.ensures c.difference.ensures
    ∙ ap (λ x. (lanes_ring p positive).mul (same_four (residue_of p positive g.K.MontyParameters.radix_inverse)) (map_four (from_stored p g.K.MontyParameters.radix_inverse positive) x)) c.products.view_is

use Rattle.std.proofs.Common.{ap₂, ◌∙◌}
use Rattle.field_monty.specs.Quartic.{Quartic, quartic_ring}
use Rattle.field.specs.Residue.{Residue}
use Rattle.field_monty.specs.internal.Four.{Four}
use Rattle.field_monty.specs.internal.Lanes.{lanes_ring, lanes_w}
use Rattle.field_monty.specs.laws.Lanes.{lanes_lawful}
use Rattle.field_monty.proofs.QuarticProduct.{quartic_product}
use Rattle.field_monty.proofs.planes.PlanesMul.mul.Goals as goal

pub returns : goal.returns
returns g c =
    let a : Quartic (Four (Residue g.row.P)) = record { c0 = c.self.inside.c0; c1 = c.self.inside.c1; c2 = c.self.inside.c2; c3 = c.self.inside.c3 } in
    let b : Quartic (Four (Residue g.row.P)) = record { c0 = c.rhs.inside.c0; c1 = c.rhs.inside.c1; c2 = c.rhs.inside.c2; c3 = c.rhs.inside.c3 } in
    quartic_product (lanes_lawful g.row.P g.K.MontyParameters.positive) (lanes_w g.row.P g.K.MontyParameters.positive g.K.QuarticParameters.W) a b
    c.times_w-w1.result c.times_w-w2.result c.times_w-w3.result c.times_w-w1.ensures c.times_w-w2.ensures c.times_w-w3.ensures
    (record { c0 = c.sum_of_four.result; c1 = c.sum_of_four-2.result; c2 = c.sum_of_four-3.result; c3 = c.sum_of_four-4.result })
    c.sum_of_four.ensures c.sum_of_four-2.ensures c.sum_of_four-3.ensures c.sum_of_four-4.ensures
    ∙ ap₂ (λ (x y : Quartic (Four (Residue g.row.P))). (quartic_ring (lanes_ring g.row.P g.K.MontyParameters.positive) (lanes_w g.row.P g.K.MontyParameters.positive g.K.QuarticParameters.W)).mul x y) c.self.view_is c.rhs.view_is

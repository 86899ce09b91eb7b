use Rattle.std.proofs.Common.{ap, ◌∙◌}
use Rattle.field_monty.specs.Quartic.{Quartic, norm_high, norm_low}
use Rattle.field.specs.Residue.{Residue}
use Rattle.field_monty.specs.internal.Four.{Four}
use Rattle.field_monty.specs.internal.Lanes.{lanes_ring, lanes_w}
use Rattle.field_monty.specs.laws.Lanes.{lanes_lawful}
use Rattle.field_monty.proofs.QuarticLanes.{high_by_three, low_by_three}
use Rattle.field_monty.proofs.planes.Planes.norm_parts.Goals as goal

pub returns-clause-low : goal.returns-clause-low
returns-clause-low g c =
    let a : Quartic (Four (Residue g.row.P)) = record { c0 = c.self.inside.c0; c1 = c.self.inside.c1; c2 = c.self.inside.c2; c3 = c.self.inside.c3 } in
    low_by_three (lanes_lawful g.row.P g.K.MontyParameters.positive) (lanes_w g.row.P g.K.MontyParameters.positive g.K.QuarticParameters.W) a c.times_w-w2.result c.times_w-w3.result c.neg-n1.result c.add.result c.sum_of_three.result
    c.times_w-w2.ensures c.times_w-w3.ensures c.neg-n1.ensures c.add.ensures c.sum_of_three.ensures
    ∙ ap (norm_low (lanes_ring g.row.P g.K.MontyParameters.positive) (lanes_w g.row.P g.K.MontyParameters.positive g.K.QuarticParameters.W)) c.self.view_is

pub returns-clause-high : goal.returns-clause-high
returns-clause-high g c =
    let a : Quartic (Four (Residue g.row.P)) = record { c0 = c.self.inside.c0; c1 = c.self.inside.c1; c2 = c.self.inside.c2; c3 = c.self.inside.c3 } in
    high_by_three (lanes_lawful g.row.P g.K.MontyParameters.positive) (lanes_w g.row.P g.K.MontyParameters.positive g.K.QuarticParameters.W) a c.times_w-w3.result c.neg-n1.result c.add-2.result c.neg.result c.sum_of_three-2.result
    c.times_w-w3.ensures c.neg-n1.ensures c.add-2.ensures c.neg.ensures c.sum_of_three-2.ensures
    ∙ ap (norm_high (lanes_ring g.row.P g.K.MontyParameters.positive) (lanes_w g.row.P g.K.MontyParameters.positive g.K.QuarticParameters.W)) c.self.view_is

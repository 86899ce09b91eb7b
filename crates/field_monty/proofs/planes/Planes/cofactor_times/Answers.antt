use Rattle.std.proofs.Common.{sym, ap, ◌∙◌}
use Rattle.field_monty.specs.Quartic.{Quartic, norm_high, norm_low, quartic_cofactor}
use Rattle.field.specs.Residue.{Residue}
use Rattle.field_monty.specs.internal.Four.{Four}
use Rattle.field_monty.specs.internal.Lanes.{lanes_ring, lanes_w}
use Rattle.field_monty.specs.laws.Lanes.{lanes_lawful}
use Rattle.field_monty.proofs.QuarticLanes.{cofactor_by_two}
use Rattle.field_monty.proofs.planes.Planes.cofactor_times.Goals as goal

pub returns : goal.returns
returns g c =
    let a : Quartic (Four (Residue g.row.P)) = record { c0 = c.self.inside.c0; c1 = c.self.inside.c1; c2 = c.self.inside.c2; c3 = c.self.inside.c3 } in
    cofactor_by_two (lanes_lawful g.row.P g.K.MontyParameters.positive) (lanes_w g.row.P g.K.MontyParameters.positive g.K.QuarticParameters.W) a c.args.d c.args.low c.args.high c.mul-x.result c.mul-y.result c.times_w-z.result c.neg-2.result c.neg-3.result c.neg.result c.neg-4.result
    (record { c0 = c.sum_of_two.result; c1 = c.sum_of_two-2.result; c2 = c.sum_of_two-3.result; c3 = c.sum_of_two-4.result })
    (c.requires.low ∙ ap (norm_low (lanes_ring g.row.P g.K.MontyParameters.positive) (lanes_w g.row.P g.K.MontyParameters.positive g.K.QuarticParameters.W)) (sym c.self.view_is)) (c.requires.high ∙ ap (norm_high (lanes_ring g.row.P g.K.MontyParameters.positive) (lanes_w g.row.P g.K.MontyParameters.positive g.K.QuarticParameters.W)) (sym c.self.view_is))
    c.mul-x.ensures c.mul-y.ensures c.times_w-z.ensures c.neg.ensures c.neg-2.ensures c.neg-3.ensures c.neg-4.ensures
    c.sum_of_two.ensures c.sum_of_two-2.ensures c.sum_of_two-3.ensures c.sum_of_two-4.ensures
    ∙ ap (quartic_cofactor (lanes_ring g.row.P g.K.MontyParameters.positive) (lanes_w g.row.P g.K.MontyParameters.positive g.K.QuarticParameters.W) c.args.d) c.self.view_is

use Rattle.field_monty.specs.internal.Lanes.{lanes_w}
use Rattle.field_monty.specs.laws.Lanes.{lanes_lawful}
use Rattle.field_monty.proofs.QuarticLanes.{norm_by_two}
use Rattle.field_monty.proofs.planes.Planes.norm.Goals as goal

pub returns : goal.returns
returns g c =
    norm_by_two (lanes_lawful g.row.P g.K.MontyParameters.positive) (lanes_w g.row.P g.K.MontyParameters.positive g.K.QuarticParameters.W) c.args.self c.args.low c.args.high c.neg.result c.times_w.result c.sum_of_two.result
    c.requires.low c.requires.high c.neg.ensures c.times_w.ensures c.sum_of_two.ensures

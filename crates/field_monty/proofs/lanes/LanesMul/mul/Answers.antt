use Rattle.field_monty.specs.internal.Lanes.{lanes_ring}
use Rattle.field_monty.proofs.LaneSums.{lanes_reduced_to}
use Rattle.field_monty.proofs.lanes.LanesMul.mul.Goals as goal

pub returns : goal.returns
returns g c =
    lanes_reduced_to g.K.MontyParameters.positive g.K.MontyParameters.right c.products.result ((lanes_ring g.row.P g.K.MontyParameters.positive).mul c.args.self c.args.rhs) c.reduce.result c.products.ensures.value c.reduce.ensures

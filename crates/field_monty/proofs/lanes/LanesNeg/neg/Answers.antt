use Rattle.field_monty.proofs.LaneSums.{lanes_negated}
use Rattle.field_monty.proofs.lanes.LanesNeg.neg.Goals as goal

pub returns : goal.returns
returns g c =
    lanes_negated g.K.MontyParameters.positive g.K.MontyParameters.right c.zero.result c.args.self c.sub.result c.zero.ensures c.sub.ensures

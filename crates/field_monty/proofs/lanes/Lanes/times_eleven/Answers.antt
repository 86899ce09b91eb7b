use Rattle.field_monty.proofs.LaneSums.{eleven_times}
use Rattle.field_monty.proofs.lanes.Lanes.times_eleven.Goals as goal

pub returns : goal.returns
returns g c =
    eleven_times g.K.MontyParameters.positive g.K.MontyParameters.right c.args.self c.add-twice.result c.add-fourfold.result c.add-eightfold.result c.add.result c.add-2.result
    c.add-twice.ensures c.add-fourfold.ensures c.add-eightfold.ensures c.add.ensures c.add-2.ensures

use Rattle.field_monty.proofs.LaneSums.{sums_are}
use Rattle.field_monty.proofs.lanes.sums.Goals as goal

pub returns : goal.returns
returns c = sums_are c.args.a c.fits-a.0 c.args.b c.fits-b.0 c.requires.a c.requires.b

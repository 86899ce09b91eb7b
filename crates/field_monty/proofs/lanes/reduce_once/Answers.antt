use Rattle.field_monty.proofs.LaneDifference.{are_reduced}
use Rattle.field_monty.proofs.lanes.reduce_once.Goals as goal

pub returns : goal.returns
returns c = are_reduced c.args.modulus c.requires.small c.args.x c.fits-x.0 c.requires.below

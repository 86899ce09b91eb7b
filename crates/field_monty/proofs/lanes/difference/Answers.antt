use Rattle.field_monty.proofs.LaneDifference.{are_differences}
use Rattle.field_monty.proofs.lanes.difference.Goals as goal

pub returns : goal.returns
returns c = are_differences c.args.modulus c.requires.small c.args.a c.fits-a.0 c.args.b c.fits-b.0 c.requires.a c.requires.b

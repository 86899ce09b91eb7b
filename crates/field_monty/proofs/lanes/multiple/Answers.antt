use Rattle.field_monty.proofs.LaneCases.{nonzero_radix}
use Rattle.field_monty.proofs.lanes.multiple.Goals as goal

pub nonzero_rem-result : goal.nonzero_rem-result
nonzero_rem-result c = nonzero_radix c.args.x

pub nonzero_rem-result-2 : goal.nonzero_rem-result-2
nonzero_rem-result-2 c = nonzero_radix _

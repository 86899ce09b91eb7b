use Rattle.std.proofs.Common.{◌∙◌}
use Rattle.field_monty.proofs.Montgomery.{high_reduced}
use Rattle.field_monty.proofs.monty_field.MontyField31.reduce_wide.Goals as goal

pub returns-clause-value : goal.returns-clause-value
returns-clause-value g c =
    c.reduce_halves.ensures.value ∙ high_reduced g.K.MontyParameters.positive g.K.MontyParameters.right c.args.x c.reduce_once.result c.reduce_once.ensures.kept c.reduce_once.ensures.lowered

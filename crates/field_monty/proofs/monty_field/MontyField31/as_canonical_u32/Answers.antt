use Rattle.std.proofs.Common.{◌∙◌}
use Rattle.field_monty.proofs.Montgomery.{value_of}
use Rattle.field_monty.proofs.monty_field.MontyField31.as_canonical_u32.Goals as goal

pub returns-clause-value : goal.returns-clause-value
returns-clause-value g c =
    value_of g.K.MontyParameters.positive g.K.MontyParameters.right c.reduce.result c.args.self c.reduce.ensures.below (c.reduce.ensures.value ∙ c.stored.ensures.value)

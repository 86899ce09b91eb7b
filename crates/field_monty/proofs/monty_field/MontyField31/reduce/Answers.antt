use Rattle.std.proofs.Common.{ap, ◌∙◌, arith}
use Rattle.field_monty.specs.Montgomery.{from_stored}
use Rattle.field_monty.proofs.monty_field.MontyField31.reduce.Goals as goal

pub returns-clause-value : goal.returns-clause-value
returns-clause-value g c =
    c.reduce_halves.ensures.value ∙ ap (from_stored g.row.P g.K.MontyParameters.radix_inverse g.K.MontyParameters.positive) (omega arith)

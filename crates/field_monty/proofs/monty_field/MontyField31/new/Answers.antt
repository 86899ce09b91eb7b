use Rattle.std.proofs.Common.{◌*◌, ap, ◌∙◌}
use Rattle.field_monty.specs.Montgomery.{from_stored}
use Rattle.field_monty.proofs.Montgomery.{number_stored}
use Rattle.field_monty.proofs.monty_field.MontyField31.new.Goals as goal

pub returns : goal.returns
returns g c =
    c.from_stored.ensures
    ∙ number_stored g.K.MontyParameters.positive g.K.MontyParameters.right c.args.n c.reduce.result
    (c.reduce.ensures.value ∙ ap (λ s. from_stored g.row.P g.K.MontyParameters.radix_inverse g.K.MontyParameters.positive (c.args.n * s)) c.RADIX_SQUARED.ensures)

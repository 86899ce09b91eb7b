use Rattle.std.proofs.Common.{◌∙◌}
use Rattle.field_monty.proofs.Montgomery.{reduced_stored}
use Rattle.field_monty.proofs.monty_field.MontyField31Mul.mul.Goals as goal

pub returns : goal.returns
returns g c =
    c.from_stored.ensures ∙ reduced_stored g.K.MontyParameters.positive g.K.MontyParameters.right c.stored_product.result c.reduce.result _ c.reduce.ensures.value c.stored_product.ensures.value

use Rattle.std.proofs.Common.{ap, ◌∙◌}
use Rattle.field_monty.specs.Montgomery.{from_stored}
use Rattle.field_monty.proofs.Montgomery.{one_stored}
use Rattle.field_monty.proofs.monty_field.MontyField31PrimeCharacteristicRing.ONE.Goals as goal

pub returns : goal.returns
returns g c =
    ap (from_stored g.row.P g.K.MontyParameters.radix_inverse g.K.MontyParameters.positive) c.ONE.ensures ∙ one_stored g.K.MontyParameters.positive g.K.MontyParameters.right

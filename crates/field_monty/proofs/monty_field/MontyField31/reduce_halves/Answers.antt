use Rattle.std.proofs.Common.{◌*◌, ◌%◌, ap}
use Rattle.field_monty.proofs.Montgomery.{reduced_halves}
use Rattle.field_monty.proofs.monty_field.MontyField31.reduce_halves.Goals as goal

pub returns-clause-value : goal.returns-clause-value
returns-clause-value g c =
    reduced_halves g.K.MontyParameters.positive g.K.MontyParameters.right c.args.high c.args.low (c.args.low * c.MODULUS_INVERSE.result % 4294967296) c.difference.result c.ranges.low.fits
    (ap (λ m. c.args.low * m % 4294967296) c.MODULUS_INVERSE.ensures) c.difference.ensures.borrowing c.difference.ensures.plain

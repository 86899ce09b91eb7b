use Rattle.std.proofs.Common.{sym, ◌∙◌}
use Rattle.field.specs.laws.ResidueRing.{of_nat_is}
use Rattle.field.proofs.small_prime.SmallPrimePrimeCharacteristicRing.from_u32.Goals as goal

pub returns : goal.returns
returns g c = c.new.ensures ∙ sym (of_nat_is g.row.P g.K.SmallPrimeParameters.positive c.args.n)

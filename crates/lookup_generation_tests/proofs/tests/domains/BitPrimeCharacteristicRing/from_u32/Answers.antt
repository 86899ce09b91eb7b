use Rattle.std.proofs.Common.{sym, ◌∙◌}
use Rattle.field.specs.internal.IntegersModulo2.{f2_positive}
use Rattle.field.specs.laws.ResidueRing.{of_nat_is}
use Rattle.lookup_generation_tests.proofs.tests.domains.BitPrimeCharacteristicRing.from_u32.Goals as goal

pub returns : goal.returns
returns c = c.new.ensures ∙ sym (of_nat_is 2 f2_positive c.args.n)

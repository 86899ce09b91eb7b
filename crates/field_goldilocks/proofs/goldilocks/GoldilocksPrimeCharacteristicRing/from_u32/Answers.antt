use Rattle.std.proofs.Common.{sym, ◌∙◌}
use Rattle.field_goldilocks.specs.Goldilocks.{goldilocks_positive}
use Rattle.field.specs.laws.ResidueRing.{of_nat_is}
use Rattle.field_goldilocks.proofs.goldilocks.GoldilocksPrimeCharacteristicRing.from_u32.Goals as goal

pub returns : goal.returns
returns c = c.new.ensures ∙ sym (of_nat_is 18446744069414584321 goldilocks_positive c.args.n)

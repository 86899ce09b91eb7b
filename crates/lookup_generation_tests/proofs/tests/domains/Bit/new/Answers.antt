use Rattle.field.specs.internal.IntegersModulo2.{f2_positive}
use Rattle.field.specs.laws.ResidueRing.{residue_of_mod}
use Rattle.lookup_generation_tests.proofs.tests.domains.Bit.new.Goals as goal

pub returns : goal.returns
returns c = residue_of_mod 2 f2_positive c.args.n

use Rattle.field.specs.laws.ResidueRing.{residue_of_mod}
use Rattle.field.proofs.small_prime.SmallPrime.new.Goals as goal

pub returns : goal.returns
returns g c = residue_of_mod g.row.P g.K.SmallPrimeParameters.positive c.args.n

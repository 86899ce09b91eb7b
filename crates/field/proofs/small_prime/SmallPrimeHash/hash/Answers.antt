use Rattle.std.proofs.Common.{rules}
use Rattle.field.proofs.StoredValues.{value_again}
use Rattle.field.proofs.small_prime.SmallPrimeHash.hash.Goals as goal

pub returns : goal.returns
returns g c = search (rules, value_again g.K.SmallPrimeParameters.positive)

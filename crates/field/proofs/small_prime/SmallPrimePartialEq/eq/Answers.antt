use Rattle.std.proofs.Common.{rules}
use Rattle.field.proofs.StoredValues.{test_of}
use Rattle.field.proofs.small_prime.SmallPrimePartialEq.eq.Goals as goal

pub returns : goal.returns
returns g c = search (rules, test_of g.K.SmallPrimeParameters.positive)

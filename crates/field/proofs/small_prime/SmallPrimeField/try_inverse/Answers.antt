use Rattle.field.specs.laws.PrimeResidues.{residue_inverse_is}
use Rattle.field.proofs.Tests.{refuted}
use Rattle.field.proofs.small_prime.SmallPrimeField.try_inverse.Goals as goal

pub returns-else-is_zero-clause-inverts : goal.returns-else-is_zero-clause-inverts
returns-else-is_zero-clause-inverts g c =
    rw c.exp_u64.ensures (residue_inverse_is g.row.P g.K.SmallPrimeParameters.positive g.K.SmallPrimeParameters.prime c.args.self (refuted _ c.is_zero.ensures c.if-is_zero.false))

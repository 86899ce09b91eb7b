use Rattle.field.proofs.Tests.{refuted}
use Rattle.field_goldilocks.specs.laws.Goldilocks.{goldilocks_inverse_is}
use Rattle.field_goldilocks.proofs.goldilocks.GoldilocksField.try_inverse.Goals as goal

pub returns-else-is_zero-clause-inverts : goal.returns-else-is_zero-clause-inverts
returns-else-is_zero-clause-inverts c =
    rw c.exp_u64.ensures (goldilocks_inverse_is c.args.self (refuted _ c.is_zero.ensures c.if-is_zero.false))

use Rattle.std.proofs.Common.{ap, ◌∙◌}
use Rattle.field.specs.internal.IntegersModulo2.{f2_positive, f2_ring}
use Rattle.field.specs.laws.IntegersModulo2.{f2_inverse_self, f2_prime}
use Rattle.field.specs.laws.PrimeResidues.{residue_inverse_is}
use Rattle.field.proofs.Tests.{refuted}
use Rattle.lookup_generation_tests.proofs.tests.domains.BitInverterInverterBit.invert.Goals as goal

pub returns-else-is_zero-clause-inverts : goal.returns-else-is_zero-clause-inverts
returns-else-is_zero-clause-inverts c =
    let n = refuted _ c.is_zero.ensures c.if-is_zero.false in
    ap (f2_ring.mul c.args.x) (f2_inverse_self c.args.x n) ∙ residue_inverse_is 2 f2_positive f2_prime c.args.x n

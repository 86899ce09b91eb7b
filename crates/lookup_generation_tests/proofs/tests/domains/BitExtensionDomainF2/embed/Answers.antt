use Rattle.std.proofs.Common.{sym}
use Rattle.field.proofs.Tests.{refuted}
use Rattle.lookup_generation_tests.proofs.Bits.{one_of_nonzero}
use Rattle.lookup_generation_tests.proofs.tests.domains.BitExtensionDomainF2.embed.Goals as goal

pub returns-else-is_zero : goal.returns-else-is_zero
returns-else-is_zero c = sym (one_of_nonzero c.args.x (refuted _ c.is_zero.ensures c.if-is_zero.false))

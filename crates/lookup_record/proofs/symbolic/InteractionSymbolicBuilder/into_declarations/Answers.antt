use Rattle.std.proofs.Common.{refl}
use Rattle.lookup_record.proofs.symbolic.InteractionSymbolicBuilder.into_declarations.Goals as goal

pub returns-clause-reads : goal.returns-clause-reads
returns-clause-reads g c = refl

pub returns-clause-tables : goal.returns-clause-tables
returns-clause-tables g c = refl

use Rattle.std.proofs.Common.{refl}
use Rattle.lookup_record.proofs.symbolic.InteractionSymbolicBuilder.into_interactions.Goals as goal

pub returns-clause-locals : goal.returns-clause-locals
returns-clause-locals g c = refl

pub returns-clause-globals : goal.returns-clause-globals
returns-clause-globals g c = refl

pub returns-clause-exclusives : goal.returns-clause-exclusives
returns-clause-exclusives g c = refl

use Rattle.std.proofs.Common.{ap, map}
use Rattle.lookup_record.specs.Records.{exclusive_of}
use Rattle.lookup_record.proofs.symbolic.InteractionSymbolicBuilder.exclusive_interactions.Goals as goal

pub returns : goal.returns
returns g c = ap (map exclusive_of) c.as_slice.ensures.value

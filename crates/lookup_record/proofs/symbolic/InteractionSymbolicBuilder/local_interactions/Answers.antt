use Rattle.std.proofs.Common.{ap, map}
use Rattle.lookup_record.specs.Records.{local_of}
use Rattle.lookup_record.proofs.symbolic.InteractionSymbolicBuilder.local_interactions.Goals as goal

pub returns : goal.returns
returns g c = ap (map local_of) c.as_slice.ensures.value

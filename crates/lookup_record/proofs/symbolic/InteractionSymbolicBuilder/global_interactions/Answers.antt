use Rattle.std.proofs.Common.{ap, map}
use Rattle.lookup_record.specs.Records.{global_of}
use Rattle.lookup_record.proofs.symbolic.InteractionSymbolicBuilder.global_interactions.Goals as goal

pub returns : goal.returns
returns g c = ap (map global_of) c.as_slice.ensures.value

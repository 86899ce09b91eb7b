use Rattle.std.proofs.Common.{ap, map}
use Rattle.lookup_indexed.specs.Declaration.{read_of}
use Rattle.lookup_record.proofs.symbolic.InteractionSymbolicBuilder.indexed_reads.Goals as goal

pub returns : goal.returns
returns g c = ap (map read_of) c.as_slice.ensures.value

use Rattle.std.proofs.Common.{ap, map}
use Rattle.lookup_indexed.specs.Declaration.{declared_table}
use Rattle.lookup_record.proofs.symbolic.InteractionSymbolicBuilder.indexed_tables.Goals as goal

pub returns : goal.returns
returns g c = ap (map declared_table) c.as_slice.ensures.value

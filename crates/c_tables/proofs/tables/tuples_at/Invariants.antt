use Rattle.std.proofs.Common.{take}
use Rattle.c_tables.specs.Tables.{AreTableTuples}
use Rattle.c_tables.proofs.tables.tuples_at.Given as goal

abbrev pub invariant-loop-span : goal.invariant-loop-span
invariant-loop-span g l = AreTableTuples l.nodes (take l.span-index l.spans) l.tuples.items

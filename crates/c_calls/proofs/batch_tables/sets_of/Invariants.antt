use Rattle.std.proofs.Common.{take}
use Rattle.c_calls.specs.BatchTables.{AreSetsOfTables}
use Rattle.c_calls.proofs.batch_tables.sets_of.Given as goal

abbrev pub invariant-loop-index : goal.invariant-loop-index
invariant-loop-index g l = AreSetsOfTables (take l.index l.airs) l.sets.items

use Rattle.std.proofs.Common.{take}
use Rattle.c_calls.specs.DebugCheck.{AreDebugSets}
use Rattle.c_calls.proofs.debug_check.table_sets.Given as goal

abbrev pub invariant-loop-index : goal.invariant-loop-index
invariant-loop-index g l = AreDebugSets (take l.index l.airs) l.sets.items

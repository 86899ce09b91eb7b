use Rattle.std.proofs.Common.{take}
use Rattle.c_calls.specs.BatchTables.{AreTracesOfTables}
use Rattle.c_calls.proofs.batch_tables.all_traces.Given as goal

abbrev pub invariant-loop-index : goal.invariant-loop-index
invariant-loop-index g l = AreTracesOfTables g.K.MontyParameters.positive (take l.index l.traces) l.all.items

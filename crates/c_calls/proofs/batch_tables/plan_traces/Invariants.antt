use Rattle.std.proofs.Common.{◌≡◌, map, take}
use Rattle.batch.specs.Traces.{view_of}
use Rattle.c_calls.specs.Inputs.{view_of_read}
use Rattle.c_calls.proofs.batch_tables.plan_traces.Given as goal

abbrev pub invariant-loop-air : goal.invariant-loop-air
invariant-loop-air g l = map view_of l.all.items ≡ map view_of_read (take l.air-index l.traces)

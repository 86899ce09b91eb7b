use Rattle.std.proofs.Common.{◌≡◌, map, take}
use Rattle.batch.specs.Traces.{traces_of_main, view_of}
use Rattle.example_machines.proofs.traces.plan_traces.Given as goal

abbrev pub invariant-loop-main : goal.invariant-loop-main
invariant-loop-main g l = map view_of l.traces.items ≡ map traces_of_main (take l.main-index l.mains)

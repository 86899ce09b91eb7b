use Rattle.std.proofs.Common.{◌≡◌, map, take}
use Rattle.lookup_debug.specs.Contributions.{traced_of}
use Rattle.example_machines.specs.internal.Traces.{traced_over}
use Rattle.example_machines.proofs.traces.debug_instances.Given as goal

abbrev pub invariant-loop-trace : goal.invariant-loop-trace
invariant-loop-trace g l = map traced_of l.instances.items ≡ map traced_over (take l.trace-index l.traces)

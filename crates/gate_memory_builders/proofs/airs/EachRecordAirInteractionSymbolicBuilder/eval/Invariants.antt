use Rattle.std.proofs.Common.{◌≡◌}
use Rattle.lookup_record.specs.RecordedAir.{recorded_air}
use Rattle.gate_memory_builders.proofs.airs.EachRecordAirInteractionSymbolicBuilder.eval.Given as goal

abbrev pub invariant-loop-push : goal.invariant-loop-push
invariant-loop-push g l =
    (recorded_air l.builder).constraints.layout ≡ (recorded_air l.initial.builder).constraints.layout

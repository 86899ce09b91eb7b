use Rattle.std.proofs.Common.{take}
use Rattle.std.specs.List.{AllZip}
use Rattle.example_machines.specs.internal.Traces.{IsTraceOf}
use Rattle.example_machines.proofs.traces.air_traces.Given as goal

abbrev pub invariant-loop-air : goal.invariant-loop-air
invariant-loop-air g l = AllZip (IsTraceOf g.F.PrimeCharacteristicRing.ring g.F.PartialEq.eq l.input) (take l.air-index l.air-items) l.traces.items

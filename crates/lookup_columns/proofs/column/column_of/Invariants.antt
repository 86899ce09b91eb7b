use Rattle.std.proofs.Common.{◌≡◌, [], drop}
use Rattle.lookup_columns.specs.Slots.{filled_slots}
use Rattle.air.specs.Traces.{traces_of, window_of}
use Rattle.lookup_columns.proofs.StepLaws.{worked_out}
use Rattle.lookup_columns.proofs.column.column_of.Given as goal

abbrev pub invariant-loop-step : goal.invariant-loop-step
invariant-loop-step g l =
    let go = worked_out g.F.PrimeCharacteristicRing.ring (window_of (traces_of l.traces)) l.rows in
    go (drop l.step-index l.steps) (filled_slots l.slots) ≡ go l.steps []

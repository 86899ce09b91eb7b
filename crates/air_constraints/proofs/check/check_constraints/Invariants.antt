use Rattle.std.proofs.Common.{ℕ, ◌<◌}
use Rattle.air.specs.Traces.{traces_of, window_of}
use Rattle.air_constraints.specs.Hold.{Hold}
use Rattle.air_constraints.proofs.check.check_constraints.Given as goal

abbrev pub invariant-loop-row : goal.invariant-loop-row
invariant-loop-row g l =
    (r : ℕ) → r < l.row → Hold g.F.PrimeCharacteristicRing.ring (window_of (traces_of l.traces) r) l.constraints

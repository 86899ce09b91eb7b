use Rattle.std.proofs.Common.{take}
use Rattle.air_constraints.specs.Checked.{checked_window}
use Rattle.air_constraints.specs.Hold.{Hold}
use Rattle.air_constraints.proofs.check.first_nonzero.Given as goal

abbrev pub invariant-loop-constraint : goal.invariant-loop-constraint
invariant-loop-constraint g l = Hold g.F.PrimeCharacteristicRing.ring (checked_window l.row) (take l.constraint l.constraints)

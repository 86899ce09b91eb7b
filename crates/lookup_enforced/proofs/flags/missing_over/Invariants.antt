use Rattle.std.proofs.Common.{take}
use Rattle.air_expressions.specs.Window.{Window}
use Rattle.lookup_enforced.specs.internal.Shown.{IsAnyOf}
use Rattle.lookup_model.specs.Fault.{IsLawfulSelection}
use Rattle.lookup_model.specs.Sent.{values}
use Rattle.lookup_enforced.proofs.flags.missing_over.Given as goal

abbrev pub invariant-loop-row : goal.invariant-loop-row
invariant-loop-row g l =
    let R = g.F.PrimeCharacteristicRing.ring in
    (w : Window g.row.F.Denot) → IsAnyOf R (take l.row-index l.rows) w → IsLawfulSelection R g.F.PartialEq.eq (values R w l.flags)

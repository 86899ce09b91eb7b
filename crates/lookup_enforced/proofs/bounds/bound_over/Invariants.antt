use Rattle.std.proofs.Common.{take}
use Rattle.air_expressions.specs.Window.{Window}
use Rattle.air_constraints.specs.Bounds.{IsWithin}
use Rattle.lookup_enforced.specs.internal.Shown.{IsAnyOf}
use Rattle.lookup_model.specs.Sent.{value}
use Rattle.lookup_enforced.proofs.bounds.bound_over.Given as goal

abbrev pub invariant-loop-row : goal.invariant-loop-row
invariant-loop-row g l =
    let R = g.F.PrimeCharacteristicRing.ring in
    (w : Window g.row.F.Denot) → IsAnyOf R (take l.row-index l.rows) w → IsWithin R l.most (value R w l.multiplicity)

use Rattle.std.proofs.Common.{take}
use Rattle.air_expressions.specs.Window.{Window}
use Rattle.air_constraints.specs.Bounds.{IsInRange}
use Rattle.air_constraints.specs.Facts.{AreBits}
use Rattle.air_constraints.specs.Polynomials.{sum_at}
use Rattle.air_constraints.proofs.bounds.range_of.Given as goal

abbrev pub invariant-loop-term : goal.invariant-loop-term
invariant-loop-term g l =
    let R = g.F.PrimeCharacteristicRing.ring in
    (w : Window g.row.F.Denot) → AreBits R w l.bits → IsInRange R l.range (sum_at R w (take l.term-index l.terms))

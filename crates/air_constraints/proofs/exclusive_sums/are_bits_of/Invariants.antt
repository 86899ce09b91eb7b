use Rattle.std.proofs.Common.{◌≤◌, length, take}
use Rattle.air_expressions.specs.Window.{Window}
use Rattle.air_constraints.specs.Facts.{AreApart, AreBits}
use Rattle.air_constraints.specs.Polynomials.{sum_at}
use Rattle.air_constraints.proofs.ExclusiveLaws.{IsBitBefore}
use Rattle.air_constraints.proofs.exclusive_sums.are_bits_of.Given as goal

abbrev pub invariant-loop-cell : goal.invariant-loop-cell
invariant-loop-cell g l =
    let R = g.F.PrimeCharacteristicRing.ring in
    (l.found ≤ length l.terms)
    × ((w : Window g.row.F.Denot) → AreBits R w l.bits → AreApart R w l.list → IsBitBefore g.F.PrimeCharacteristicRing.lawful w l.list l.cell-index (sum_at R w (take l.found l.terms)))

use Rattle.std.proofs.Common.{All}
use Rattle.air_expressions.specs.Window.{Window}
use Rattle.air_constraints.specs.Facts.{AreApart, AreSo}
use Rattle.air_constraints.proofs.exclusive.more_exclusive.Given as goal

abbrev pub invariant-loop-zero : goal.invariant-loop-zero
invariant-loop-zero g l =
    let R = g.F.PrimeCharacteristicRing.ring in
    (w : Window g.row.F.Denot) → AreSo R w l.facts → All (λ g'. AreApart R w g'.items) l.found.items

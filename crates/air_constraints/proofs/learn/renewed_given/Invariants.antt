use Rattle.std.proofs.Common.{All}
use Rattle.air_expressions.specs.Window.{Window}
use Rattle.air_constraints.specs.Facts.{AreSo, IsGiven}
use Rattle.air_constraints.proofs.learn.renewed_given.Given as goal

abbrev pub invariant-loop-known : goal.invariant-loop-known
invariant-loop-known g l =
    let R = g.F.PrimeCharacteristicRing.ring in
    (w : Window g.row.F.Denot) → AreSo R w l.facts → All (IsGiven R w) l.given.items

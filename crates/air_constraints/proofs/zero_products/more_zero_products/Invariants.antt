use Rattle.std.proofs.Common.{All}
use Rattle.air_expressions.specs.Window.{Window}
use Rattle.air_constraints.specs.Facts.{AreSo, IsZeroProduct}
use Rattle.air_constraints.proofs.zero_products.more_zero_products.Given as goal

abbrev pub invariant-loop-zero : goal.invariant-loop-zero
invariant-loop-zero g l =
    let R = g.F.PrimeCharacteristicRing.ring in
    (w : Window g.row.F.Denot) → AreSo R w l.facts → All (λ n. IsZeroProduct R w n.items) l.found.items

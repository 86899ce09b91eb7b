use Rattle.std.proofs.Common.{◌≡◌, All}
use Rattle.air_expressions.specs.Window.{Window}
use Rattle.air_constraints.specs.Facts.{AreSo, IsZeroProduct}
use Rattle.air_constraints.specs.Polynomials.{sum_at}
use Rattle.air_constraints.proofs.zero_products.push_products.Given as goal

abbrev pub invariant-loop-cell : goal.invariant-loop-cell
invariant-loop-cell g l =
    let R = g.F.PrimeCharacteristicRing.ring in
    (w : Window g.row.F.Denot) → AreSo R w l.facts → sum_at R w l.zero ≡ R.zero → All (λ n. IsZeroProduct R w n.items) l.fn.found.items → All (λ n. IsZeroProduct R w n.items) l.found.items

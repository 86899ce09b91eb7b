use Rattle.std.proofs.Common.{◌≡◌, take}
use Rattle.air_expressions.specs.Window.{Window}
use Rattle.air_constraints.specs.Facts.{AreSo}
use Rattle.air_constraints.specs.Polynomials.{product_at, sum_at}
use Rattle.air_constraints.proofs.trees.rewritten_product.Given as goal

abbrev pub invariant-loop-cell : goal.invariant-loop-cell
invariant-loop-cell g l =
    let R = g.F.PrimeCharacteristicRing.ring in
    (w : Window g.row.F.Denot) → AreSo R w l.facts
    → sum_at R w l.product.items ≡ R.mul l.fn.coefficient (product_at R w (take l.cell-index l.cells))

use Rattle.std.proofs.Common.{◌≡◌, take}
use Rattle.air_expressions.specs.Window.{Window}
use Rattle.air_constraints.specs.Facts.{AreSo}
use Rattle.air_constraints.specs.Polynomials.{product_at, sum_at}
use Rattle.air_constraints.proofs.polynomial.add_multiple.Given as goal

abbrev pub invariant-loop-term : goal.invariant-loop-term
invariant-loop-term g l =
    let R = g.F.PrimeCharacteristicRing.ring in
    (w : Window g.row.F.Denot) → AreSo R w l.facts
    → sum_at R w l.sum.items ≡ R.add (R.mul (R.mul l.by (product_at R w l.cells)) (sum_at R w (take l.term-index l.terms))) (sum_at R w l.fn.sum.items)

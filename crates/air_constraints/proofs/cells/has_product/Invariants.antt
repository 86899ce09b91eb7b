use Rattle.std.proofs.Common.{◌≡◌, ◌≤◌, length, take}
use Rattle.air_expressions.specs.Window.{Window}
use Rattle.air_constraints.specs.Polynomials.{product_at}
use Rattle.air_constraints.proofs.cells.has_product.Given as goal

abbrev pub invariant-loop-cell : goal.invariant-loop-cell
invariant-loop-cell g l =
    let R = g.F.PrimeCharacteristicRing.ring in
    (l.found ≤ length l.part)
    × ((w : Window g.row.F.Denot) → (x : g.row.F.Denot) × (product_at R w (take l.cell-index l.cells) ≡ R.mul x (product_at R w (take l.found l.part))))

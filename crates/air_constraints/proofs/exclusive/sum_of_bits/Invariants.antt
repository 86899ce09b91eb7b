use Rattle.std.proofs.Common.{◌≡◌, map, take}
use Rattle.std.specs.List.{AllByRecursion}
use Rattle.air_expressions.specs.Meaning.{variable_value}
use Rattle.air_expressions.specs.Window.{Window}
use Rattle.air_constraints.specs.internal.Bits.{sum_of}
use Rattle.air_constraints.specs.Facts.{AreSo, IsBit}
use Rattle.air_constraints.specs.Polynomials.{sum_at}
use Rattle.air_constraints.proofs.exclusive.sum_of_bits.Given as goal

abbrev pub invariant-loop-cell : goal.invariant-loop-cell
invariant-loop-cell g l =
    let R = g.F.PrimeCharacteristicRing.ring in
    (w : Window g.row.F.Denot) → AreSo R w l.facts
    → AllByRecursion (λ v. IsBit R (variable_value R w v)) (take l.cell-index l.cells) × (sum_at R w l.sum.items ≡ sum_of R (map (variable_value R w) (take l.cell-index l.cells)))

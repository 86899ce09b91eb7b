use Rattle.std.proofs.Common.{◌≡◌, map, take}
use Rattle.air_expressions.specs.Meaning.{variable_value}
use Rattle.air_expressions.specs.Window.{Window}
use Rattle.air_constraints.proofs.cells.same_products.Given as goal

abbrev pub invariant-loop-i : goal.invariant-loop-i
invariant-loop-i g l =
    let R = g.F.PrimeCharacteristicRing.ring in
    (w : Window g.row.F.Denot) → map (variable_value R w) (take l.i l.a) ≡ map (variable_value R w) (take l.i l.b)

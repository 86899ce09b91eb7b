use Rattle.air_expressions.specs.Window.{Window}
use Rattle.air_constraints.specs.Facts.{AreSo, Vanish}
use Rattle.air_constraints.specs.Hold.{Hold}
use Rattle.air_constraints.specs.Kinds.{IsOfKind}
use Rattle.air_constraints.proofs.learn.zeros_of.Given as goal

abbrev pub invariant-loop-constraint : goal.invariant-loop-constraint
invariant-loop-constraint g l =
    let R = g.F.PrimeCharacteristicRing.ring in
    (w : Window g.row.F.Denot) → IsOfKind l.kind w → AreSo R w l.facts → Hold R w l.constraints → Vanish R w l.zeros.items

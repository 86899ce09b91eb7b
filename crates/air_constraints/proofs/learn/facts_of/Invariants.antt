use Rattle.air_expressions.specs.Window.{Window}
use Rattle.air_constraints.specs.Facts.{AreSo}
use Rattle.air_constraints.specs.Hold.{Hold}
use Rattle.air_constraints.specs.Kinds.{IsOfKind}
use Rattle.air_constraints.proofs.learn.facts_of.Given as goal

abbrev pub invariant-loop-round : goal.invariant-loop-round
invariant-loop-round g l =
    let R = g.F.PrimeCharacteristicRing.ring in
    (w : Window g.row.F.Denot) → IsOfKind l.fn.kind w → Hold R w l.constraints → AreSo R w l.facts

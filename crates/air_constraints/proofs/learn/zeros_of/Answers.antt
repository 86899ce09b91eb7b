use Rattle.std.proofs.Common.{◌≡◌}
use Rattle.list_laws.proofs.Each.{All-at}
use Rattle.air_constraints.specs.Hold.{value_at}
use Rattle.air_constraints.proofs.learn.zeros_of.Goals as goal

pub loop-constraint-preserved : goal.loop-constraint-preserved
loop-constraint-preserved g c = λ w kind so hold.
    let R = g.F.PrimeCharacteristicRing.ring in
    let here = All-at (λ e. value_at R w e ≡ R.zero) c.args.constraints.now c.loop-constraint.constraint-index c.constraint-item.result hold c.loop-constraint-test.true c.constraint-item.is in
    c.in_ok-push_zero.ensures w kind so here (c.loop-constraint.invariant w kind so hold)

use Rattle.std.proofs.Common.{◌≡◌}
use Rattle.field.specs.Ring.{power}
use Rattle.lookup_model.proofs.challenges.positive_power.Given as goal

abbrev pub invariant-loop-left : goal.invariant-loop-left
invariant-loop-left g l =
    let S = g.EF.PrimeCharacteristicRing.ring in
    S.mul l.product (power S l.square l.left) ≡ power S l.fn.base l.fn.n

abbrev pub decreases-loop-left : goal.decreases-loop-left
decreases-loop-left g l = l.left

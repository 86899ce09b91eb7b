use Rattle.std.proofs.Common.{◌-◌, ◌<◌}
use Rattle.air_constraints.proofs.bounds.whole_number.Given as goal

abbrev pub invariant-loop-power : goal.invariant-loop-power
invariant-loop-power g l = 0 < l.power

abbrev pub decreases-loop-power : goal.decreases-loop-power
decreases-loop-power g l = 4611686018427387904 - l.power

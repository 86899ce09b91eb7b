use Rattle.std.proofs.Common.{◌-◌, ◌≤◌, length}
use Rattle.air_constraints.proofs.polynomial.place_of.Given as goal

abbrev pub invariant-loop-low : goal.invariant-loop-low
invariant-loop-low g l = (l.low ≤ l.high) × (l.high ≤ length l.terms)

abbrev pub decreases-loop-low : goal.decreases-loop-low
decreases-loop-low g l = l.high - l.low

use Rattle.std.proofs.Common.{◌-◌, ◌≤◌, length}
use Rattle.air_constraints.proofs.cells.with_cell.Given as goal

abbrev pub invariant-loop-at : goal.invariant-loop-at
invariant-loop-at g l = l.at ≤ length l.cells.items

abbrev pub decreases-loop-at : goal.decreases-loop-at
decreases-loop-at g l = length l.cells.items - l.at

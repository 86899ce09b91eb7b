use Rattle.std.specs.Prelude.{◌+◌, ◌*◌}
use Rattle.air_expressions.specs.Depth.{depth_of}
use Rattle.air_expressions.specs.Tree.{tree_of}
use Rattle.checker_witness.proofs.trace_row.TraceRow.+value.Given as goal

abbrev pub decreases-value_of : goal.decreases-value_of
decreases-value_of g l = 2 * depth_of (tree_of l.expression.now) + 1

abbrev pub decreases-node : goal.decreases-node
decreases-node g l = 2 * depth_of (tree_of l.expression.now)

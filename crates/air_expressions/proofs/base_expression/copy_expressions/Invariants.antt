use Rattle.std.proofs.Common.{◌≡◌, map, take}
use Rattle.air_expressions.specs.Tree.{tree_of}
use Rattle.air_expressions.proofs.base_expression.copy_expressions.Given as goal

abbrev pub invariant-loop-expression : goal.invariant-loop-expression
invariant-loop-expression g l = map tree_of l.copies.items ≡ map tree_of (take l.expression-index l.expressions)

use Rattle.std.proofs.Common.{◌≡◌, ◌<◌, ℕ, Some}
use Rattle.std.specs.List.{slice_get}
use Rattle.air_expressions.specs.Layout.{Fits}
use Rattle.air_expressions.specs.Tree.{tree_of}
use Rattle.air_expressions.specs.declared.base_expression.SymbolicExpression.{SymbolicExpression}
use Rattle.lookup_debug.proofs.fit.outside_of.Given as goal

abbrev pub invariant-loop-expression : goal.invariant-loop-expression
invariant-loop-expression g l = (i : ℕ) (other : SymbolicExpression _) → i < l.expression-index → slice_get l.expressions i ≡ Some other → Fits l.layout (tree_of other)

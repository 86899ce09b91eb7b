use Rattle.std.proofs.Common.{◌≡◌, ◌<◌, ℕ, Some}
use Rattle.std.specs.List.{slice_get}
use Rattle.std.specs.declared.alloc.Global.{Global}
use Rattle.std.specs.declared.vec.Vec.{Vec}
use Rattle.air_expressions.specs.declared.base_expression.SymbolicExpression.{SymbolicExpression}
use Rattle.lookup_model.specs.Records.{AllFit}
use Rattle.lookup_debug.proofs.fit.outside_tuples.Given as goal

abbrev pub invariant-loop-tuple : goal.invariant-loop-tuple
invariant-loop-tuple g l = (i : ℕ) (other : Vec (SymbolicExpression _) Global) → i < l.tuple-index → slice_get l.tuples i ≡ Some other → AllFit l.layout other.items

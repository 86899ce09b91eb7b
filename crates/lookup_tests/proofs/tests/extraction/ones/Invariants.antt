use Rattle.std.proofs.Common.{All}
use Rattle.air_expressions.specs.declared.layout.AirLayout.{AirLayout}
use Rattle.lookup_tests.proofs.tests.extraction.ones.Given as goal

abbrev pub invariant-loop : goal.invariant-loop
invariant-loop g l = (layout : AirLayout) → All (g.AB.Expr.Expression.within layout) l.tuple.items

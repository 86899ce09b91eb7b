use Rattle.std.proofs.Common.{All}
use Rattle.lookup_record.specs.Pushed.{tuple_of}
use Rattle.lookup_record.specs.Within.{TupleWithin}
use Rattle.lookup_tests.proofs.tests.extraction.push_local.Given as goal

abbrev pub invariant-loop-width : goal.invariant-loop-width
invariant-loop-width g l =
    All (λ t. TupleWithin g.AB.Expr.Expression.within (g.AB.AirBuilder.layout l.builder) (tuple_of t)) l.tuples.items

use Rattle.std.proofs.Common.{All}
use Rattle.lookup_record.specs.Within.{KeyWithin}
use Rattle.lookup_tests.proofs.tests.extraction.query_keys.Given as goal

abbrev pub invariant-loop-branch : goal.invariant-loop-branch
invariant-loop-branch g l =
    All (KeyWithin g.AB.Expr.Expression.within (g.AB.AirBuilder.layout l.builder)) l.branches.items

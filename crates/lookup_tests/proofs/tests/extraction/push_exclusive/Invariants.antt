use Rattle.std.proofs.Common.{All}
use Rattle.lookup_record.specs.Pushed.{pushed_branch}
use Rattle.lookup_record.specs.Within.{BranchWithin}
use Rattle.lookup_tests.proofs.tests.extraction.push_exclusive.Given as goal

abbrev pub invariant-loop-weight : goal.invariant-loop-weight
invariant-loop-weight g l =
    All (λ b. BranchWithin g.AB.Expr.Expression.within (g.AB.AirBuilder.layout l.builder) (pushed_branch b)) l.branches.items

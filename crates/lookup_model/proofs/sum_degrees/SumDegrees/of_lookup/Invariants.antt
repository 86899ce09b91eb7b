use Rattle.std.proofs.Common.{take}
use Rattle.lookup_model.specs.LookupDegree.{lookup_branch_degrees}
use Rattle.lookup_model.specs.SumDegrees.{AreSumDegrees}
use Rattle.lookup_model.proofs.sum_degrees.SumDegrees.of_lookup.Given as goal

abbrev pub invariant-loop-branch : goal.invariant-loop-branch
invariant-loop-branch g l = AreSumDegrees (take l.branch (lookup_branch_degrees l.transition l.lookup)) l.sum

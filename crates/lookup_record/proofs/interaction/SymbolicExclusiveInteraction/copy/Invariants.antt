use Rattle.std.proofs.Common.{◌≡◌, map, take}
use Rattle.air_expressions.specs.Tree.{tree_of}
use Rattle.lookup_record.specs.Interaction.{map_branch}
use Rattle.lookup_record.specs.Records.{branch_of}
use Rattle.lookup_record.proofs.interaction.SymbolicExclusiveInteraction.copy.Given as goal

abbrev pub invariant-loop-branch : goal.invariant-loop-branch
invariant-loop-branch g l =
    map (map_branch tree_of) (map branch_of l.branches.items) ≡ map (map_branch tree_of) (map branch_of (take l.branch-index l.branch-items))

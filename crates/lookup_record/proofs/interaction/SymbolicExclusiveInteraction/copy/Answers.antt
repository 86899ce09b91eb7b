use Rattle.std.proofs.lemmas.Simd.{map-map}
use Rattle.air_expressions.specs.Tree.{tree_of}
use Rattle.field.proofs.Items.{copied_more}
use Rattle.lookup_record.specs.Interaction.{map_branch}
use Rattle.lookup_record.specs.Records.{branch_of}
use Rattle.std.proofs.Common.{arith, refl}
use Rattle.std.proofs.lemmas.List.{take_all}
use Rattle.lookup_record.proofs.interaction.SymbolicExclusiveInteraction.copy.Goals as goal

pub loop-branch-preserved : goal.loop-branch-preserved
loop-branch-preserved g c = rw c.in_ok-push.ensures.items
    (simp map-map (copied_more (λ b. map_branch tree_of (branch_of b)) c.loop-branch.branches.items c.as_slice-branch-items.result.now c.loop-branch.branch-index c.in_ok-copy.field-0 c.branch-item.result (simp map-map at c.loop-branch.invariant) c.loop-branch-test.true c.branch-item.is c.in_ok-copy.ensures))

pub loop-branch-init : goal.loop-branch-init
loop-branch-init g c = rw c.new-branches.ensures.items refl

pub bounds-branch-items-branch-index : goal.bounds-branch-items-branch-index
bounds-branch-items-branch-index g c = omega arith

pub offset_bounds-branch-items-branch-index : goal.offset_bounds-branch-items-branch-index
offset_bounds-branch-items-branch-index g c = omega arith

pub returns : goal.returns
returns g c =
    rw (c.in_ok-bus_name.ensures.ok, c.as_str.ensures.value, c.loop-branch.invariant, take_all c.loop-branch.branch-index c.as_slice-branch-items.result.now (omega arith), c.as_slice-branch-items.ensures.value) refl

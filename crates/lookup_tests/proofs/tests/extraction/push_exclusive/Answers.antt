use Rattle.std.proofs.lemmas.List.Elements.{All-map, All-push}
use Rattle.air_expressions.proofs.Assertions.{on_ok}
use Rattle.lookup_record.specs.Interaction.{Branch}
use Rattle.lookup_record.specs.Pushed.{pushed_branch}
use Rattle.lookup_record.specs.Within.{BranchWithin}
use Rattle.lookup_tests.proofs.tests.extraction.push_exclusive.Goals as goal

pub loop-weight-preserved : goal.loop-weight-preserved
loop-weight-preserved g c =
    let Inside : Branch g.row.AB-Expr.Denot → Type 0 = BranchWithin g.AB.Expr.Expression.within (g.AB.AirBuilder.layout c.args.builder.now) in
    let made : Inside (pushed_branch (c.is_first_row.result, c.bounded-count.result, c.in_ok-ones.field-0)) = record { flag = c.is_first_row.ensures.within; count = rw c.bounded-count.ensures (c.constant.ensures.within _); fields = c.in_ok-ones.ensures _ } in
    rw c.in_ok-push.ensures.items (All-push (λ b. Inside (pushed_branch b)) c.loop-weight.branches.items (c.is_first_row.result, c.bounded-count.result, c.in_ok-ones.field-0) c.loop-weight.invariant made)

pub returns-clause-layout : goal.returns-clause-layout
returns-clause-layout g c = on_ok c.push_exclusive_interaction.result _ _ _ c.push_exclusive_interaction.ensures
    (λ pushed. g.met.AB.InteractionBuilder.push_keeps_layout _ _ _ pushed)

pub returns-clause-within : goal.returns-clause-within
returns-clause-within g c = on_ok c.push_exclusive_interaction.result _ _ _ c.push_exclusive_interaction.ensures
    (λ pushed old. g.met.AB.InteractionBuilder.push_within _ _ _ pushed
    (All-map (BranchWithin g.AB.Expr.Expression.within (g.AB.AirBuilder.layout c.args.builder.now)) pushed_branch c.loop-weight.branches.items c.loop-weight.invariant) old)

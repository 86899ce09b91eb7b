-- What a plan with constraints bounds by the heights of its traces alone.
use Rattle.std.specs.Prelude.{◌≡◌, ◌≤◌, ℕ, List}
use Rattle.air_expressions.specs.declared.base_expression.SymbolicExpression.{SymbolicExpression}
use Rattle.batch.specs.Heights.{most_planned}
use Rattle.batch.specs.Plans.{FitPlan, Plan, plan_batch}
use Rattle.batch.specs.declared.trace.BatchTrace.{BatchTrace}
use Rattle.batch_enforced.specs.Constrained.{HoldOnBatch}
use Rattle.field.specs.Extension.{Extension}
use Rattle.lookup_model.specs.Batches.Counts.{message_count}
use Rattle.lookup_model.specs.Batches.Instances.{Instance}
use Rattle.lookup_model.specs.Batches.Linear.{FewBadBetasByHeights, most_messages}

-- M is the most messages of a batch by its heights, it has no more distinct ones, and few betas are bad by
-- heights.
pub record IsBoundedByHeights {F K : Type 0} (E : Extension F K) (batch : List (Instance F)) (W M : ℕ) : Type 0 where
  pub most : most_messages batch ≡ M
  pub messages : message_count E batch ≤ M
  pub few : FewBadBetasByHeights E batch W

-- So it is with the batch of a plan over all traces that fit, and on whose rows the constraints are zero.
abbrev pub BoundsConstrainedTraces : {F K : Type 0} → Extension F K → Plan F → List (List (SymbolicExpression F)) → Type 0
BoundsConstrainedTraces {F} E plan constraints =
    (traces : List (BatchTrace F)) → FitPlan plan traces → HoldOnBatch E.base constraints (plan_batch plan traces)
    → IsBoundedByHeights E (plan_batch plan traces) plan.width (most_planned plan.airs plan.heights)

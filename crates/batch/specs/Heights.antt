-- What a plan answers by the heights of its traces alone.
use Rattle.std.specs.Prelude.{◌≡◌, ◌⊎◌, ◌-◌, ◌*◌, ◌^◌, ◌<◌, ◌≤◌, ℕ, List, Result, MatchOption, MatchResult}
use Rattle.std.specs.List.{sum_by, zip}
use Rattle.field.specs.Extension.{Extension}
use Rattle.lookup_model.specs.Batches.Counts.{message_count}
use Rattle.lookup_model.specs.Batches.Instances.{Instance}
use Rattle.lookup_model.specs.Batches.Linear.{FewBadBetasByHeights, most_messages, most_of_row}
use Rattle.lookup_model.specs.Batches.Messages.{AreFlagsLawful}
use Rattle.lookup.specs.Lookups.{lookups_of}
use Rattle.lookup.specs.declared.lookups.Lookups.{Lookups}
use Rattle.batch.specs.Plans.{FitPlan, Plan, plan_batch}
use Rattle.batch.specs.declared.error.BatchError.{BatchError}
use Rattle.batch.specs.declared.error.BatchError.TheVariants.{CountOverflow}
use Rattle.batch.specs.declared.heights.HeightSoundness.{HeightSoundness}
use Rattle.batch.specs.declared.trace.BatchTrace.{BatchTrace}

-- The most messages of AIRs of these heights: on each row one for each lookup with flags, and each tuple of
-- every other one.
abbrev pub most_planned : {F : Type 0} → List (Lookups F) → List ℕ → ℕ
most_planned airs heights = sum_by (λ t. t.1 * most_of_row (lookups_of t.0)) (zip airs heights)

-- the numbers for M messages at the most, and challenges that are made for tuples of W elements
pub record AreHeightCounts (M W : ℕ) (count : HeightSoundness) : Type 0 where
  pub messages : count.most_messages ≡ M
  pub bad_betas : count.bad_betas ≡ W * (M - 1)
  pub accepting_alphas : MatchOption count.accepting_alphas (M ≡ 0) (λ most. (0 < M) × (most ≡ 2 * M - 1))

-- these numbers, or a refusal where one of them does not fit 128 bits
abbrev pub CountsHeights : ℕ → ℕ → Result HeightSoundness BatchError → Type 0
CountsHeights M W answer = MatchResult answer
    (AreHeightCounts M W)
    (λ e. (e ≡ CountOverflow) × ((2 ^ 128 ≤ W * (M - 1)) ⊎ (2 ^ 128 ≤ 2 * M - 1)))

-- The numbers bound a batch: M is its most messages and, if flags are lawful, it has no more distinct ones,
-- and few betas are bad by heights.
pub record BoundsByHeights {F K : Type 0} (E : Extension F K) (batch : List (Instance F)) (W M : ℕ) : Type 0 where
  pub most : most_messages batch ≡ M
  pub messages : AreFlagsLawful E.base E.base_eq batch → message_count E batch ≤ M
  pub few : AreFlagsLawful E.base E.base_eq batch → FewBadBetasByHeights E batch W

-- The numbers of a plan's heights bound its batch over all traces that fit.
abbrev pub BoundsAllTraces : {F K : Type 0} → Extension F K → Plan F → Type 0
BoundsAllTraces {F} E plan =
    (traces : List (BatchTrace F)) → FitPlan plan traces → BoundsByHeights E (plan_batch plan traces) plan.width (most_planned plan.airs plan.heights)

-- What counting the accepted pairs of a grid of challenges answers.
use Rattle.std.specs.Prelude.{◌≡◌, ◌⊎◌, ◌^◌, ◌<◌, ◌≤◌, ℕ, List, Result, IfOk, MatchOption, MatchResult, length}
use Rattle.field.specs.Distinct.{IsDistinct}
use Rattle.field.specs.Extension.{Extension}
use Rattle.lookup_model.specs.Batches.Counts.{bad_beta_bound, unbalanced_count}
use Rattle.lookup_model.specs.Batches.FlagFaults.{IsFirstFlagFault}
use Rattle.lookup_model.specs.Batches.Grid.{AcceptsPair, IsNumberOf, grid, joint_bound}
use Rattle.lookup_model.specs.Batches.Instances.{Instance}
use Rattle.lookup_model.specs.Batches.Linear.{linear_joint_bound}
use Rattle.lookup_model.specs.Batches.Messages.{AreFlagsLawful}
use Rattle.lookup_model.specs.declared.fault.BatchFault.{BatchFault}
use Rattle.batch.specs.Plans.{FitPlan, IsMisfit, Plan, plan_batch}
use Rattle.batch.specs.Refusals.{of_fault}
use Rattle.batch.specs.declared.error.BatchError.{BatchError}
use Rattle.batch.specs.declared.error.BatchError.TheVariants.{CountOverflow, Memory, RepeatedChallenge}
use Rattle.batch.specs.declared.grid.GridCount.{GridCount}
use Rattle.batch.specs.declared.trace.BatchTrace.{BatchTrace}

-- neither list of challenges has a repeat
abbrev pub HaveNoRepeat : {K : Type 0} → List K → List K → Type 0
HaveNoRepeat alphas betas = IsDistinct alphas × IsDistinct betas

module _ {F K : Type 0} (E : Extension F K) (instances : List (Instance F)) (W : ℕ) (alphas betas : List K) where
  -- The count of a grid: how many of its pairs are accepted, and the joint bound, or none if no key is
  -- unbalanced. The bound of bad betas fits 128 bits.
  pub record IsGridCount (count : GridCount) : Type 0 where
    pub accepted : IsNumberOf (AcceptsPair E instances W) (grid alphas betas) count.accepted
    pub bound : MatchOption count.bound (unbalanced_count E instances ≡ 0)
        (λ bound. (0 < unbalanced_count E instances) × (bound ≡ joint_bound E instances W (length alphas) (length betas)))
    pub fits : bad_beta_bound E instances W < 2 ^ 128

  -- some key is unbalanced, and the bound of bad betas or the joint bound does not fit 128 bits
  pub record IsGridOverflow : Type 0 where
    pub some : 0 < unbalanced_count E instances
    pub large : (2 ^ 128 ≤ bad_beta_bound E instances W) ⊎ (2 ^ 128 ≤ joint_bound E instances W (length alphas) (length betas))

  -- The refusal of a count: a repeat among the challenges; or else the first fault of flags of the
  -- first AIR that has one; or else a bound that does not fit.
  abbrev pub IsGridRefusal : BatchError → Type 0
  IsGridRefusal e =
      ((¬ HaveNoRepeat alphas betas) × (e ≡ RepeatedChallenge))
      ⊎ ((HaveNoRepeat alphas betas × ((fault : BatchFault) × IsFirstFlagFault E.base E.base_eq instances fault × (e ≡ of_fault fault)))
      ⊎ (HaveNoRepeat alphas betas × AreFlagsLawful E.base E.base_eq instances × IsGridOverflow × (e ≡ CountOverflow)))

  -- if some message does not balance, the linear joint bound holds as well
  abbrev pub StaysWithinLinearBound : Result GridCount BatchError → Type 0
  StaysWithinLinearBound answer =
      IfOk answer (λ count. 0 < unbalanced_count E instances → count.accepted ≤ linear_joint_bound E instances W (length alphas) (length betas))

module _ {F K : Type 0} (E : Extension F K) (plan : Plan F) (traces : List (BatchTrace F)) (alphas betas : List K) where
  -- The count over the traces of a plan: they fit; or they are refused before anything else.
  abbrev pub CountsPlanGrid : Result GridCount BatchError → Type 0
  CountsPlanGrid answer =
      let batch = plan_batch plan traces in
      MatchResult answer
      (λ count. FitPlan plan traces × HaveNoRepeat alphas betas × AreFlagsLawful E.base E.base_eq batch × IsGridCount E batch plan.width alphas betas count)
      (λ e. (e ≡ Memory) ⊎ (IsMisfit plan traces e ⊎ (FitPlan plan traces × IsGridRefusal E batch plan.width alphas betas e)))

  -- if some message does not balance, the linear joint bound holds as well
  abbrev pub PlanStaysWithinLinearBound : Result GridCount BatchError → Type 0
  PlanStaysWithinLinearBound answer = StaysWithinLinearBound E (plan_batch plan traces) plan.width alphas betas answer

-- at most as many pairs are accepted as the bound says, where there is one
abbrev pub StaysWithinBound : Result GridCount BatchError → Type 0
StaysWithinBound answer = IfOk answer (λ count. MatchOption count.bound (Unit {0}) (λ bound. count.accepted ≤ bound))

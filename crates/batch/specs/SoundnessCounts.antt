-- What counting the messages of a plan answers.
use Rattle.std.specs.Prelude.{◌≡◌, ◌⊎◌, ◌^◌, ◌≤◌, ℕ, List, Result, IfOk, MatchResult}
use Rattle.field.specs.Extension.{Extension}
use Rattle.lookup_model.specs.Batches.Counts.{AreCounts, IsCountedSound, bad_beta_bound}
use Rattle.lookup_model.specs.Batches.FlagFaults.{IsFirstFlagFault}
use Rattle.lookup_model.specs.Batches.Instances.{Instance}
use Rattle.lookup_model.specs.Batches.Linear.{IsLinearlySound}
use Rattle.lookup_model.specs.Batches.Messages.{AreFlagsLawful}
use Rattle.lookup_model.specs.declared.count.SoundnessCount.{SoundnessCount}
use Rattle.lookup_model.specs.declared.fault.BatchFault.{BatchFault}
use Rattle.batch.specs.Plans.{FitPlan, IsMisfit, Plan, plan_batch}
use Rattle.batch.specs.Refusals.{of_fault}
use Rattle.batch.specs.declared.error.BatchError.{BatchError}
use Rattle.batch.specs.declared.error.BatchError.TheVariants.{CountOverflow, Memory}
use Rattle.batch.specs.declared.trace.BatchTrace.{BatchTrace}

module _ {F K : Type 0} (E : Extension F K) (instances : List (Instance F)) (W : ℕ) where
  -- The refusal of a count: the first fault of flags of the first AIR that has one; or else a bound of
  -- bad betas that does not fit 128 bits.
  abbrev pub IsCountingRefusal : BatchError → Type 0
  IsCountingRefusal e =
      ((fault : BatchFault) × IsFirstFlagFault E.base E.base_eq instances fault × (e ≡ of_fault fault))
      ⊎ (AreFlagsLawful E.base E.base_eq instances × (2 ^ 128 ≤ bad_beta_bound E instances W) × (e ≡ CountOverflow))

module _ {F K : Type 0} (E : Extension F K) (plan : Plan F) (traces : List (BatchTrace F)) where
  -- The counts, over traces that fit and lawful flags; or the refusal of the traces, or else that of the
  -- count. Or memory runs out.
  abbrev pub CountsPlan : Result SoundnessCount BatchError → Type 0
  CountsPlan answer =
      let batch = plan_batch plan traces in
      MatchResult answer
      (λ count. FitPlan plan traces × AreFlagsLawful E.base E.base_eq batch × AreCounts E batch plan.width count)
      (λ e. (e ≡ Memory) ⊎ (IsMisfit plan traces e ⊎ (FitPlan plan traces × IsCountingRefusal E batch plan.width e)))

  -- the counts bound the challenges at which the batch is accepted
  abbrev pub CountsSoundly : Result SoundnessCount BatchError → Type 0
  CountsSoundly answer = IfOk answer (λ _. IsCountedSound E (plan_batch plan traces) plan.width)

  -- so they do with the linear bound of bad betas
  abbrev pub CountsLinearly : Result SoundnessCount BatchError → Type 0
  CountsLinearly answer = IfOk answer (λ _. IsLinearlySound E (plan_batch plan traces) plan.width)

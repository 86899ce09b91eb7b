-- What counting the messages of a batch answers from tables of numbers.
use Rattle.std.specs.Prelude.{◌<◌, ◌≡◌, ◌⊎◌, ◌-◌, ◌*◌, ◌/◌, ℕ, List, Result, Ok, Err}
use Rattle.field.specs.Residue.{Residue}
use Rattle.field.specs.Extension.{Extension}
use Rattle.field_monty.specs.Quartic.{Quartic}
use Rattle.lookup_model.specs.declared.count.SoundnessCount.{SoundnessCount}
use Rattle.batch.specs.Plans.{Plan}
use Rattle.batch.specs.SoundnessCounts.{CountsLinearly, CountsPlan, CountsSoundly}
use Rattle.batch.specs.declared.error.BatchError.{BatchError}
use Rattle.batch.specs.declared.trace.BatchTrace.{BatchTrace}
use Rattle.c_tables.specs.declared.traces.Traces.{Traces}
use Rattle.c_calls.specs.CallAnswers.{CallAnswers}
use Rattle.c_calls.specs.BatchTables.{IsBatchOfTablesRefusal, OfBatchOfTables}
use Rattle.c_calls.specs.Outputs.{IsOptionalWide, wide_number}
use Rattle.c_calls.specs.declared.batch_tables.Air.{Air}
use Rattle.c_calls.specs.declared.fault.Fault.{Fault}
use Rattle.c_calls.specs.declared.fault.Fault.TheVariants.{Batch}
use Rattle.c_calls.specs.declared.outputs.Wide.{Wide}
use Rattle.c_calls.specs.declared.refusal.Refusal.{Refusal}
use Rattle.c_calls.specs.declared.soundness_count.Counts.{Counts}

-- The number W * (k - 1), where k messages do not balance: for every W whose bound W * k * (k - 1) / 2 is
-- the one of the counts.
abbrev pub IsLinearCountBound : SoundnessCount → Wide → Type 0
IsLinearCountBound count bound =
    (W : ℕ) → count.bad_betas ≡ W * count.unbalanced * (count.unbalanced - 1) / 2 → wide_number bound ≡ W * (count.unbalanced - 1)

-- the numbers of counts
pub record AreSoundnessCountNumbers (count : SoundnessCount) (numbers : Counts) : Type 0 where
  pub messages : wide_number numbers.messages ≡ count.messages
  pub unbalanced : wide_number numbers.unbalanced ≡ count.unbalanced
  pub bad_betas : wide_number numbers.bad_betas ≡ count.bad_betas
  pub accepting_alphas : IsOptionalWide count.accepting_alphas numbers.bounded numbers.accepting_alphas
  pub linear_bad_betas : IsLinearCountBound count numbers.linear_bad_betas

-- what `BatchPlan::soundness_count` says of its answer
pub record CallCountsPlan {F K : Type 0} (E : Extension F K) (plan : Plan F) (traces : List (BatchTrace F)) (answer : Result SoundnessCount BatchError) : Type 0 where
  pub counts : CountsPlan E plan traces answer
  pub sound : CountsSoundly E plan traces answer
  pub linear : CountsLinearly E plan traces answer

module _ {p : ℕ} (positive : 0 < p) (E : Extension (Residue p) (Quartic (Residue p))) (airs : List Air) (traces : List Traces) where
  -- The counts of the plan of the AIRs over the traces, all as the tables encode them.
  abbrev pub SoundnessCountOfTables : SoundnessCount → Type 0
  SoundnessCountOfTables count = OfBatchOfTables positive airs traces (λ plan given. CallCountsPlan E plan given (Ok count))

  -- the refusal of the batch, or of the count; or memory runs out
  abbrev pub IsSoundnessCountRefusal : Fault → Type 0
  IsSoundnessCountRefusal fault = IsBatchOfTablesRefusal positive airs traces fault ⊎ ((e : BatchError) × (fault ≡ Batch e) × OfBatchOfTables positive airs traces (λ plan given. CallCountsPlan E plan given (Err e)))

  -- the numbers of the counts
  abbrev pub SoundnessCountIsNumbers : Counts → Type 0
  SoundnessCountIsNumbers numbers = (count : SoundnessCount) × SoundnessCountOfTables count × AreSoundnessCountNumbers count numbers

  -- the code and the refusal of a call that counts messages
  abbrev pub AnswersSoundnessCount : Counts → ℕ → Refusal → Type 0
  AnswersSoundnessCount numbers code refusal = CallAnswers code refusal (SoundnessCountIsNumbers numbers) IsSoundnessCountRefusal

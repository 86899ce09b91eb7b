-- What counting over a grid of challenges answers from tables of numbers.
use Rattle.std.specs.Prelude.{◌<◌, ◌≡◌, ◌⊎◌, ℕ, List, Result, Ok, Err}
use Rattle.field.specs.Residue.{Residue}
use Rattle.field_monty.specs.Quartic.{Quartic}
use Rattle.field.specs.Extension.{Extension}
use Rattle.batch.specs.Grids.{CountsPlanGrid, PlanStaysWithinLinearBound, StaysWithinBound}
use Rattle.batch.specs.Plans.{Plan}
use Rattle.batch.specs.declared.error.BatchError.{BatchError}
use Rattle.batch.specs.declared.grid.GridCount.{GridCount}
use Rattle.batch.specs.declared.trace.BatchTrace.{BatchTrace}
use Rattle.c_tables.specs.declared.traces.Traces.{Traces}
use Rattle.c_calls.specs.CallAnswers.{CallAnswers}
use Rattle.c_calls.specs.BatchTables.{IsBatchOfTables, IsBatchOfTablesRefusal}
use Rattle.c_calls.specs.Inputs.{AreInputElements, IsInputListRefusal}
use Rattle.c_calls.specs.Outputs.{IsOptionalWide, wide_number}
use Rattle.c_calls.specs.declared.batch_tables.Air.{Air}
use Rattle.c_calls.specs.declared.codes.Part.TheVariants.{Alphas, Betas}
use Rattle.c_calls.specs.declared.fault.Fault.{Fault}
use Rattle.c_calls.specs.declared.fault.Fault.TheVariants.{Batch}
use Rattle.c_calls.specs.declared.grid_count.Grid.{Grid}
use Rattle.c_calls.specs.declared.refusal.Refusal.{Refusal}

-- the numbers of a count
pub record AreGridCountNumbers (count : GridCount) (numbers : Grid) : Type 0 where
  pub accepted : wide_number numbers.accepted ≡ count.accepted
  pub bound : IsOptionalWide count.bound numbers.bounded numbers.bound

-- what `BatchPlan::grid_count` says of its answer
pub record CallCountsPlanGrid {F K : Type 0} (E : Extension F K) (plan : Plan F) (traces : List (BatchTrace F)) (alphas betas : List K) (answer : Result GridCount BatchError) : Type 0 where
  pub counts : CountsPlanGrid E plan traces alphas betas answer
  pub within : StaysWithinBound answer
  pub linear : PlanStaysWithinLinearBound E plan traces alphas betas answer

-- something holds of the batch that tables encode, at the challenges that numbers are
abbrev pub AtGridOfNumbers : {p : ℕ} → 0 < p → List Air → List Traces → List (List ℕ) → List (List ℕ) → (Plan (Residue p) → List (BatchTrace (Residue p)) → List (Quartic (Residue p)) → List (Quartic (Residue p)) → Type 0) → Type 0
AtGridOfNumbers {p} positive airs traces alphas betas Holds =
    (a : List (Quartic (Residue p))) × (b : List (Quartic (Residue p))) × (plan : Plan (Residue p)) × (given : List (BatchTrace (Residue p)))
    × AreInputElements positive alphas a × AreInputElements positive betas b × IsBatchOfTables positive airs traces plan given × Holds plan given a b

module _ {p : ℕ} (positive : 0 < p) (E : Extension (Residue p) (Quartic (Residue p))) (airs : List Air) (traces : List Traces) (alphas betas : List (List ℕ)) where
  -- The count of the plan of the AIRs over the traces and the challenges, all as the tables encode them.
  abbrev pub GridCountOfTables : GridCount → Type 0
  GridCountOfTables count = AtGridOfNumbers positive airs traces alphas betas (λ plan given a b. CallCountsPlanGrid E plan given a b (Ok count))

  -- the refusal of the batch, of a list of challenges, or of the count; or memory runs out
  abbrev pub IsGridCountRefusal : Fault → Type 0
  IsGridCountRefusal fault =
      IsBatchOfTablesRefusal positive airs traces fault
      ⊎ (IsInputListRefusal p Alphas 0 alphas fault
      ⊎ (IsInputListRefusal p Betas 0 betas fault
      ⊎ ((e : BatchError) × (fault ≡ Batch e) × AtGridOfNumbers positive airs traces alphas betas (λ plan given a b. CallCountsPlanGrid E plan given a b (Err e)))))

  -- the numbers of a count
  abbrev pub GridCountIsNumbers : Grid → Type 0
  GridCountIsNumbers numbers = (count : GridCount) × GridCountOfTables count × AreGridCountNumbers count numbers

  -- the code and the refusal of a call that counts over a grid
  abbrev pub AnswersGridCount : Grid → ℕ → Refusal → Type 0
  AnswersGridCount numbers code refusal = CallAnswers code refusal (GridCountIsNumbers numbers) IsGridCountRefusal

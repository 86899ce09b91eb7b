-- What the heights of a batch bound, from tables of numbers.
use Rattle.std.specs.Prelude.{◌≡◌, ◌⊎◌, List, Result, Ok, Err, ℕ}
use Rattle.field.specs.Residue.{Residue}
use Rattle.field.specs.Extension.{Extension}
use Rattle.field_monty.specs.Quartic.{Quartic}
use Rattle.batch.specs.Heights.{BoundsAllTraces, CountsHeights, most_planned}
use Rattle.batch.specs.Plans.{Plan}
use Rattle.batch.specs.declared.error.BatchError.{BatchError}
use Rattle.batch.specs.declared.heights.HeightSoundness.{HeightSoundness}
use Rattle.c_calls.specs.BatchTables.{IsPlanOfTables, IsPlanOfTablesRefusal}
use Rattle.c_calls.specs.Outputs.{IsOptionalWide, wide_number}
use Rattle.c_calls.specs.declared.batch_tables.Air.{Air}
use Rattle.c_calls.specs.declared.fault.Fault.{Fault}
use Rattle.c_calls.specs.declared.fault.Fault.TheVariants.{Batch}
use Rattle.c_calls.specs.declared.soundness_of_heights.HeightCounts.{HeightCounts}

-- the numbers of counts by heights
pub record AreHeightCountNumbers (count : HeightSoundness) (numbers : HeightCounts) : Type 0 where
  pub most_messages : wide_number numbers.most_messages ≡ count.most_messages
  pub bad_betas : wide_number numbers.bad_betas ≡ count.bad_betas
  pub accepting_alphas : IsOptionalWide count.accepting_alphas numbers.bounded numbers.accepting_alphas

module _ {p : ℕ} (E : Extension (Residue p) (Quartic (Residue p))) where
  -- what `BatchPlan::soundness_of_heights` says of its answer
  pub record CallCountsPlanHeights (plan : Plan (Residue p)) (answer : Result HeightSoundness BatchError) : Type 0 where
    pub counts : CountsHeights (most_planned plan.airs plan.heights) plan.width answer
    pub sound : BoundsAllTraces E plan

  -- The counts by heights of the plan of the AIRs, as the tables encode them.
  abbrev pub HeightCountOfTables : List Air → HeightSoundness → Type 0
  HeightCountOfTables airs count = (plan : Plan (Residue p)) × IsPlanOfTables airs plan × CallCountsPlanHeights plan (Ok count)

  -- the refusal of the plan, or of its count; or memory runs out
  abbrev pub IsSoundnessOfHeightsRefusal : List Air → Fault → Type 0
  IsSoundnessOfHeightsRefusal airs fault =
      IsPlanOfTablesRefusal p airs fault ⊎ ((e : BatchError) × (plan : Plan (Residue p)) × (fault ≡ Batch e) × IsPlanOfTables airs plan × CallCountsPlanHeights plan (Err e))

  -- the numbers of the counts
  abbrev pub HeightCountIsNumbers : List Air → HeightCounts → Type 0
  HeightCountIsNumbers airs numbers = (count : HeightSoundness) × HeightCountOfTables airs count × AreHeightCountNumbers count numbers

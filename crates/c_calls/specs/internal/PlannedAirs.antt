-- Calls on an AIR of a planned batch, whose ids, sizes and challenges are one value of the program.
use Rattle.std.specs.Prelude.{◌<◌, ◌≡◌, ℕ, List, MatchResult, Result}
use Rattle.field.specs.Residue.{Residue}
use Rattle.field.specs.Extension.{Extension}
use Rattle.field_monty.specs.Quartic.{Quartic}
use Rattle.field.specs.Ring.{Ring}
use Rattle.matrix.specs.Matrix.{Matrix}
use Rattle.c_tables.specs.declared.tables.Tables.{Tables}
use Rattle.c_tables.specs.declared.traces.Traces.{Traces}
use Rattle.c_calls.specs.GenerateByIds as by_ids
use Rattle.c_calls.specs.GenerateRows as generation
use Rattle.c_calls.specs.Inputs.{decoded_traces, view_of_read}
use Rattle.c_calls.specs.PlannedAirs.{ArePlannedChallenges, IsPlannedAirRefusal, IsPlannedAir}
use Rattle.c_calls.specs.VerifyRows as verification
use Rattle.c_calls.specs.declared.fault.Fault.{Fault}
use Rattle.c_calls.specs.declared.generate.Generated.{Generated}
use Rattle.c_calls.specs.declared.outputs.Terminal.{Terminal}
use Rattle.c_calls.specs.declared.planned_air.InPlan.{InPlan}
use Rattle.c_calls.specs.declared.planned_air.PlannedAir.{PlannedAir}
use Rattle.c_calls.specs.declared.rows.Rows.{Rows}
use Rattle.c_calls.specs.declared.witness.AirWitness.{AirWitness}

-- this is the AIR that the numbers encode, with the challenges of its plan
pub record IsRead {p : ℕ} (positive : 0 < p) (R : Ring (Quartic (Residue p))) (tables : Tables) (traces : Traces) (plan : InPlan) (air : PlannedAir (Residue p) (Quartic (Residue p))) : Type 0 where
  pub a : Quartic (Residue p)
  pub b : Quartic (Residue p)
  pub is : IsPlannedAir positive tables traces plan.ids.now plan.sizes.now plan.alpha.now plan.beta.now air.lookups.items a b
  pub traces_are : view_of_read air.traces ≡ decoded_traces positive traces
  pub challenges_are : ArePlannedChallenges R plan.ids.now plan.sizes.now a b air.challenges.items

-- the refusal of the AIR
abbrev pub IsReadRefusal : {p : ℕ} → 0 < p → Tables → Traces → InPlan → Fault → Type 0
IsReadRefusal positive tables traces plan = IsPlannedAirRefusal positive tables traces plan.ids.now plan.sizes.now plan.alpha.now plan.beta.now

module _ {p : ℕ} (positive : 0 < p) (E : Extension (Residue p) (Quartic (Residue p))) (tables : Tables) (traces : Traces) (plan : InPlan) where
  -- the auxiliary trace of the AIR is generated
  abbrev pub GeneratesByIdsInPlan : Generated (Quartic (Residue p)) → Type 0
  GeneratesByIdsInPlan made = by_ids.GeneratesTablesByIds positive E tables traces plan.ids.now plan.sizes.now plan.alpha.now plan.beta.now made.auxiliary made.terminal

  -- or refused
  abbrev pub IsByIdsRefusal : Fault → Type 0
  IsByIdsRefusal = by_ids.IsGenerateByIdsRefusal positive E tables traces plan.ids.now plan.sizes.now plan.alpha.now plan.beta.now

  -- the result of a call with room for so many cells: the numbers of what is generated, or its refusal
  abbrev pub ResultOfGenerateByIds : ℕ → List (List ℕ) → Terminal → Result (Unit {0}) Fault → Type 0
  ResultOfGenerateByIds room cells ending result =
      MatchResult result (λ _. by_ids.GeneratesNumbersByIds positive E tables traces plan.ids.now plan.sizes.now plan.alpha.now plan.beta.now cells ending)
      (by_ids.IsGenerateByIdsCallRefusal positive E tables traces plan.ids.now plan.sizes.now plan.alpha.now plan.beta.now room)

module _ {p : ℕ} (positive : 0 < p) (E : Extension (Residue p) (Quartic (Residue p))) (tables : Tables) (around : Traces) (rows : Rows) (plan : InPlan) where
  -- the rows of a range are generated
  abbrev pub GeneratesInPlan : Matrix (Quartic (Residue p)) × Quartic (Residue p) → Type 0
  GeneratesInPlan made = generation.CallGeneratesRows positive E tables around rows plan.ids.now plan.sizes.now plan.alpha.now plan.beta.now made.0 made.1

  -- or refused
  abbrev pub IsGenerationRefusal : Fault → Type 0
  IsGenerationRefusal = generation.IsGenerateRowsRefusal positive E tables around rows plan.ids.now plan.sizes.now plan.alpha.now plan.beta.now

  -- the result of a call with room for so many cells: the numbers of these rows, or its refusal
  abbrev pub ResultOfGenerateRows : ℕ → List (List ℕ) → List ℕ → Result (Unit {0}) Fault → Type 0
  ResultOfGenerateRows room cells total result =
      MatchResult result (λ _. generation.GeneratesRowNumbers positive E tables around rows plan.ids.now plan.sizes.now plan.alpha.now plan.beta.now cells total)
      (generation.IsGenerateRowsCallRefusal positive E tables around rows plan.ids.now plan.sizes.now plan.alpha.now plan.beta.now room)

  -- the rows of a range are verified, or refused
  abbrev pub ResultOfVerifyRows : AirWitness → Result (Unit {0}) Fault → Type 0
  ResultOfVerifyRows numbers result =
      MatchResult result (λ _. verification.CallVerifiesRows positive E tables around rows plan.ids.now plan.sizes.now plan.alpha.now plan.beta.now numbers)
      (verification.IsVerifyRowsRefusal positive E tables around rows plan.ids.now plan.sizes.now plan.alpha.now plan.beta.now numbers)

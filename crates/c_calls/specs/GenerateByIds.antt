-- What generation under the ids of a plan answers from tables of numbers.
use Rattle.std.specs.Prelude.{◌<◌, ◌≡◌, ◌⊎◌, ℕ, List, Option}
use Rattle.field.specs.Residue.{Residue}
use Rattle.field.specs.Extension.{Extension}
use Rattle.field_monty.specs.Quartic.{Quartic}
use Rattle.matrix.specs.Matrix.{Matrix}
use Rattle.lookup_model.specs.Challenges.{column_challenges}
use Rattle.lookup_model.specs.declared.types.Lookup.{Lookup}
use Rattle.lookup_model.specs.declared.types.LookupTerminal.{LookupTerminal}
use Rattle.c_tables.specs.declared.tables.Tables.{Tables}
use Rattle.c_tables.specs.declared.traces.Traces.{Traces}
use Rattle.c_calls.specs.CallAnswers.{CallAnswers}
use Rattle.c_calls.specs.Generate.{AreGeneratedNumbers, CallGeneratesOver, IsFirstGenerateFault, LacksGenerateRoom}
use Rattle.c_calls.specs.Inputs.{decoded_traces}
use Rattle.c_calls.specs.PlannedAirs.{IsPlannedAirRefusal, IsPlannedAir, planned_table}
use Rattle.c_calls.specs.declared.fault.Fault.{Fault}
use Rattle.c_calls.specs.declared.generate.Generated.{Generated}
use Rattle.c_calls.specs.declared.outputs.Terminal.{Terminal}
use Rattle.c_calls.specs.declared.plan.PlanSizes.{PlanSizes}
use Rattle.c_calls.specs.declared.refusal.Refusal.{Refusal}

module _ {p : ℕ} (positive : 0 < p) (E : Extension (Residue p) (Quartic (Residue p))) (tables : Tables) (traces : Traces) (ids : List ℕ) (sizes : PlanSizes) (alpha beta : List ℕ) where
  -- Generation over the one list of lookups that the tables encode, over the traces of these numbers, and
  -- over the challenges that the ids have; all numbers are below the modulus.
  pub record GeneratesTablesByIds (auxiliary : Matrix (Quartic (Residue p))) (terminal : Option (LookupTerminal (Quartic (Residue p)))) : Type 0 where
    pub lookups : List (Lookup (Residue p))
    pub a : Quartic (Residue p)
    pub b : Quartic (Residue p)
    pub air : IsPlannedAir positive tables traces ids sizes alpha beta lookups a b
    pub generates : CallGeneratesOver E (decoded_traces positive traces) (column_challenges (planned_table E.ring sizes a b) ids) lookups auxiliary terminal

  -- the refusal of the AIR, or the first fault of generation; or memory runs out
  abbrev pub IsGenerateByIdsRefusal : Fault → Type 0
  IsGenerateByIdsRefusal fault =
      IsPlannedAirRefusal positive tables traces ids sizes alpha beta fault
      ⊎ ((lookups : List (Lookup (Residue p))) × (a : Quartic (Residue p)) × (b : Quartic (Residue p)) × IsPlannedAir positive tables traces ids sizes alpha beta lookups a b
      × IsFirstGenerateFault E (decoded_traces positive traces) (column_challenges (planned_table E.ring sizes a b) ids) lookups fault)

  -- the numbers of what is generated
  abbrev pub GeneratesNumbersByIds : List (List ℕ) → Terminal → Type 0
  GeneratesNumbersByIds cells ending = AreGeneratedNumbers GeneratesTablesByIds cells ending

  -- the refusal of a call with room for so many cells
  abbrev pub IsGenerateByIdsCallRefusal : ℕ → Fault → Type 0
  IsGenerateByIdsCallRefusal room fault = IsGenerateByIdsRefusal fault ⊎ LacksGenerateRoom GeneratesTablesByIds room fault

  -- what such a call answers
  abbrev pub AnswersGenerateByIds : ℕ → List (List ℕ) → Terminal → ℕ → Refusal → Type 0
  AnswersGenerateByIds room cells ending code refusal = CallAnswers code refusal (GeneratesNumbersByIds cells ending) (IsGenerateByIdsCallRefusal room)

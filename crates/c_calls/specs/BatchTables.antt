-- Batches that tables of numbers encode, and their plan.
use Rattle.std.specs.Prelude.{◌<◌, ◌≡◌, ◌⊎◌, ℕ, All, List, false, map, true}
use Rattle.std.specs.List.{AllZip}
use Rattle.field.specs.Residue.{Residue}
use Rattle.air_expressions.specs.Faults.{HasFirstFault}
use Rattle.field.specs.Extension.{Extension}
use Rattle.field_monty.specs.Quartic.{Quartic}
use Rattle.lookup_model.specs.Records.{IsFirstMalformed}
use Rattle.lookup_model.specs.declared.error.LookupError.TheVariants.{BadRecord}
use Rattle.lookup_model.specs.declared.types.Lookup.{Lookup}
use Rattle.lookup.specs.Lookups.{lookups_of}
use Rattle.lookup.specs.declared.lookups.Lookups.{Lookups}
use Rattle.batch.specs.Checks.{HaveEvenWidths, IsPlanFor, IsPlanOver, IsPlanRefusal, IsRefusalOver}
use Rattle.batch.specs.PlanFacts.{AreNumbered, IsPlan}
use Rattle.batch.specs.Plans.{Plan}
use Rattle.batch.specs.Runs.{Run, run_of}
use Rattle.batch.specs.Traces.{view_of}
use Rattle.batch.specs.declared.error.BatchError.{BatchError}
use Rattle.batch.specs.declared.error.BatchError.TheVariants.{Memory as NoMemory}
use Rattle.batch.specs.declared.trace.BatchTrace.{BatchTrace}
use Rattle.c_tables.specs.Tables.{TablesEncode}
use Rattle.c_tables.specs.TraceNumbers.{AreNumbersOfTraces, AreTracesOfNumbers}
use Rattle.c_tables.specs.declared.tables.Tables.{Tables}
use Rattle.c_tables.specs.declared.traces.ReadTraces.{ReadTraces}
use Rattle.c_tables.specs.declared.traces.Traces.{Traces}
use Rattle.c_calls.specs.GivenIds.{given_ids, have_given_ids, id_bound}
use Rattle.c_calls.specs.Inputs.{IsInputChallenge, IsInputChallengeRefusal, IsInputTableRefusal, IsInputTracesRefusal, decoded_traces}
use Rattle.c_calls.specs.declared.batch_tables.Air.{Air}
use Rattle.c_calls.specs.declared.codes.Part.TheVariants.{Alphas, Betas}
use Rattle.c_calls.specs.declared.fault.Fault.{Fault}
use Rattle.c_calls.specs.declared.fault.Fault.TheVariants.{Batch, Lookup as OfLookup, Memory}

-- the tables of each AIR encode the lookups of its set, and no others
abbrev pub AreSetsOfTables : {p : ℕ} → List Air → List (Lookups (Residue p)) → Type 0
AreSetsOfTables airs sets = AllZip (λ air set. TablesEncode air.tables (lookups_of set)) airs sets

-- the refusal of the tables of an AIR, or of the first of its lookups with lists of different lengths
abbrev pub IsSetOfTablesRefusal : ℕ → ℕ → Tables → Fault → Type 0
IsSetOfTablesRefusal p air tables fault =
    IsInputTableRefusal p air tables fault
    ⊎ ((lookups : List (Lookup (Residue p))) × TablesEncode tables lookups × ((i : ℕ) × (fault ≡ OfLookup air (BadRecord i)) × IsFirstMalformed lookups i))

-- the tables of an AIR encode some lookups
abbrev pub AreTablesOfSet : ℕ → Tables → Type 0
AreTablesOfSet p tables = (set : Lookups (Residue p)) × TablesEncode tables (lookups_of set)

-- the refusal of the first AIR that has one; or memory runs out
abbrev pub IsSetsOfTablesRefusal : ℕ → List Air → Fault → Type 0
IsSetsOfTablesRefusal p airs fault = (fault ≡ Memory) ⊎ HasFirstFault (λ air. AreTablesOfSet p air.tables) (λ index air. IsSetOfTablesRefusal p index air.tables fault) airs

-- the heights of the AIRs
abbrev pub heights_of_tables : List Air → List ℕ
heights_of_tables airs = map (λ air. air.height) airs

-- The ids of a plan: the first numbers, given in order; or those that the AIRs are given.
abbrev pub HasIdsOfTables : {p : ℕ} → List Air → Plan (Residue p) → Type 0
HasIdsOfTables airs plan =
    ((have_given_ids airs ≡ false) × AreNumbered plan.ids plan.airs plan.num_ids)
    ⊎ ((have_given_ids airs ≡ true) × (plan.ids ≡ given_ids airs) × (plan.num_ids ≡ id_bound (given_ids airs)))

-- The plan of the AIRs: of the lookups that their tables encode, of their heights, and of their ids.
pub record IsPlanOfTables {p : ℕ} (airs : List Air) (plan : Plan (Residue p)) : Type 0 where
  pub sets : AreSetsOfTables airs plan.airs
  pub heights : plan.heights ≡ heights_of_tables airs
  pub facts : IsPlan p plan
  pub even : HaveEvenWidths plan.airs
  pub ids_are : HasIdsOfTables airs plan

-- the plan of these sets and heights over the ids that the AIRs are given
abbrev pub IsPlanOverGiven : {p : ℕ} → List Air → List (Lookups (Residue p)) → List ℕ → Plan (Residue p) → Type 0
IsPlanOverGiven airs sets heights plan = IsPlanOver sets heights (given_ids airs) (id_bound (given_ids airs)) plan

-- and its refusal
abbrev pub IsGivenIdsRefusal : {p : ℕ} → List Air → List (Lookups (Residue p)) → List ℕ → BatchError → Type 0
IsGivenIdsRefusal {p} airs sets heights e = IsRefusalOver p sets heights (given_ids airs) (id_bound (given_ids airs)) e

-- the plan of these sets and heights: with ids of its own, or over those that the AIRs are given
abbrev pub IsPlanFromTables : {p : ℕ} → List Air → List (Lookups (Residue p)) → List ℕ → Plan (Residue p) → Type 0
IsPlanFromTables airs sets heights plan =
    ((have_given_ids airs ≡ false) × IsPlanFor sets heights plan)
    ⊎ ((have_given_ids airs ≡ true) × IsPlanOverGiven airs sets heights plan)

-- and its refusal
abbrev pub IsPlanningRefusal : {p : ℕ} → List Air → List (Lookups (Residue p)) → List ℕ → BatchError → Type 0
IsPlanningRefusal {p} airs sets heights e =
    ((have_given_ids airs ≡ false) × IsPlanRefusal p sets heights e)
    ⊎ ((have_given_ids airs ≡ true) × IsGivenIdsRefusal airs sets heights e)

-- The refusal of the tables, or of the plan of what they encode; or memory runs out.
abbrev pub IsPlanOfTablesRefusal : ℕ → List Air → Fault → Type 0
IsPlanOfTablesRefusal p airs fault =
    IsSetsOfTablesRefusal p airs fault
    ⊎ ((sets : List (Lookups (Residue p))) × AreSetsOfTables airs sets
    × ((e : BatchError) × (fault ≡ Batch e) × ((e ≡ NoMemory) ⊎ IsPlanningRefusal airs sets (heights_of_tables airs) e)))

-- the traces that tables encode, AIR by AIR
abbrev pub AreTracesOfTables : {p : ℕ} → 0 < p → List Traces → List (ReadTraces (Residue p)) → Type 0
AreTracesOfTables positive traces all = AllZip (AreTracesOfNumbers positive) traces all

-- the refusal of the first traces that have one; or memory runs out
abbrev pub IsTracesOfTablesRefusal : {p : ℕ} → 0 < p → List Traces → Fault → Type 0
IsTracesOfTablesRefusal {p} positive traces fault =
    (fault ≡ Memory) ⊎ HasFirstFault (λ air. (read : ReadTraces (Residue p)) × AreTracesOfNumbers positive air read) (λ index air. IsInputTracesRefusal p index air fault) traces

-- what a plan is given are views of the traces that these tables encode
abbrev pub AreViewsOfTables : {p : ℕ} → 0 < p → List Traces → List (BatchTrace (Residue p)) → Type 0
AreViewsOfTables positive traces given = map view_of given ≡ map (decoded_traces positive) traces

-- The batch that tables encode: the plan of its AIRs and, as a plan is given them, its traces. All numbers of
-- these are below the modulus.
pub record IsBatchOfTables {p : ℕ} (positive : 0 < p) (airs : List Air) (traces : List Traces) (plan : Plan (Residue p)) (given : List (BatchTrace (Residue p))) : Type 0 where
  pub plan_is : IsPlanOfTables airs plan
  pub below : All (AreNumbersOfTraces p) traces
  pub views : AreViewsOfTables positive traces given

-- the refusal of the plan or of the traces; or memory runs out
abbrev pub IsBatchOfTablesRefusal : {p : ℕ} → 0 < p → List Air → List Traces → Fault → Type 0
IsBatchOfTablesRefusal {p} positive airs traces fault =
    (fault ≡ Memory) ⊎ (IsPlanOfTablesRefusal p airs fault ⊎ IsTracesOfTablesRefusal positive traces fault)

-- something holds of the batch that tables encode
abbrev pub OfBatchOfTables : {p : ℕ} → 0 < p → List Air → List Traces → (Plan (Residue p) → List (BatchTrace (Residue p)) → Type 0) → Type 0
OfBatchOfTables {p} positive airs traces Holds = (plan : Plan (Residue p)) × (given : List (BatchTrace (Residue p))) × IsBatchOfTables positive airs traces plan given × Holds plan given

-- something holds of the run over it at the challenges that numbers are
abbrev pub OfRunOfTables : {p : ℕ} → 0 < p → Extension (Residue p) (Quartic (Residue p)) → List Air → List Traces → List ℕ → List ℕ → (Run (Residue p) (Quartic (Residue p)) → Type 0) → Type 0
OfRunOfTables {p} positive E airs traces alpha beta Holds =
    (plan : Plan (Residue p)) × (given : List (BatchTrace (Residue p))) × (a : Quartic (Residue p)) × (b : Quartic (Residue p))
    × IsBatchOfTables positive airs traces plan given × IsInputChallenge positive alpha a × IsInputChallenge positive beta b × Holds (run_of E plan given a b)

-- the refusal of the batch, of alpha, or of beta
abbrev pub IsRunOfTablesRefusal : {p : ℕ} → 0 < p → List Air → List Traces → List ℕ → List ℕ → Fault → Type 0
IsRunOfTablesRefusal {p} positive airs traces alpha beta fault =
    IsBatchOfTablesRefusal positive airs traces fault ⊎ (IsInputChallengeRefusal p Alphas alpha fault ⊎ IsInputChallengeRefusal p Betas beta fault)

-- One AIR of a planned batch, as calls read it.
use Rattle.std.specs.Prelude.{◌≡◌, ◌≢◌, ◌⊎◌, ◌<◌, ◌≤◌, ◌*◌, ℕ, All, List, length}
use Rattle.field.specs.Residue.{Residue}
use Rattle.field_monty.specs.Quartic.{Quartic}
use Rattle.field.specs.Ring.{Ring}
use Rattle.air_expressions.specs.Faults.{HasFirstFault}
use Rattle.lookup_model.specs.Challenges.{ChallengeTable, column_challenges}
use Rattle.lookup_model.specs.declared.types.Lookup.{Lookup}
use Rattle.batch.specs.Tables.{made_table}
use Rattle.c_tables.specs.Tables.{TablesEncode}
use Rattle.c_tables.specs.TraceNumbers.{AreNumbersOfTraces}
use Rattle.c_tables.specs.declared.tables.Tables.{Tables}
use Rattle.c_tables.specs.declared.traces.Traces.{Traces}
use Rattle.c_calls.specs.Generate.{GenerateFits, IsGenerateUnfit}
use Rattle.c_calls.specs.Inputs.{IsInputChallenge, IsInputChallengeRefusal, IsInputTableRefusal, IsInputTracesRefusal, decoded_traces}
use Rattle.c_calls.specs.declared.fault.Fault.{Fault}
use Rattle.c_calls.specs.declared.fault.Fault.TheVariants.{Id, Length, Memory, Width}
use Rattle.c_calls.specs.declared.codes.Part.TheVariants.{Alphas, Betas, Ids}
use Rattle.c_calls.specs.declared.plan.PlanSizes.{PlanSizes}

-- the ids are those of a plan of these sizes, whose tuples have a width
pub record ArePlannedIds (ids : List ℕ) (sizes : PlanSizes) : Type 0 where
  pub wide : 0 < sizes.max_message_width
  pub below : All (λ id. id < sizes.num_ids) ids

-- the challenges of all ids under a plan of these sizes
abbrev pub planned_table : {K : Type 0} → Ring K → PlanSizes → K → K → ChallengeTable K
planned_table R sizes alpha beta = made_table R alpha beta sizes.max_message_width sizes.num_ids

-- the challenges of these ids under a plan of these sizes
pub record ArePlannedChallenges {K : Type 0} (R : Ring K) (ids : List ℕ) (sizes : PlanSizes) (alpha beta : K) (challenges : List K) : Type 0 where
  pub ids_are : ArePlannedIds ids sizes
  pub challenges_are : challenges ≡ column_challenges (planned_table R sizes alpha beta) ids
  pub many : length challenges ≡ 2 * length ids

-- the refusal of the first id that is not below the number of ids
abbrev pub IsFirstLargePlannedId : List ℕ → ℕ → Fault → Type 0
IsFirstLargePlannedId ids num_ids fault = HasFirstFault (λ id. id < num_ids) (λ index id. (num_ids ≤ id) × (fault ≡ Id index)) ids

-- the refusal of a width of zero, or of an id; or memory runs out
abbrev pub IsPlannedIdsRefusal : List ℕ → PlanSizes → Fault → Type 0
IsPlannedIdsRefusal ids sizes fault =
    (fault ≡ Memory)
    ⊎ (((fault ≡ Width) × (sizes.max_message_width ≡ 0)) ⊎ IsFirstLargePlannedId ids sizes.num_ids fault)

module _ {p : ℕ} (positive : 0 < p) (tables : Tables) (traces : Traces) (ids : List ℕ) (sizes : PlanSizes) (alpha beta : List ℕ) where
  -- The one list of lookups that the tables encode, one for each id of the plan, over the traces of these
  -- numbers, and under alpha and beta; all numbers are below the modulus.
  pub record IsPlannedInput (lookups : List (Lookup (Residue p))) (a b : Quartic (Residue p)) : Type 0 where
    pub encoded : TablesEncode tables lookups
    pub traces_below : AreNumbersOfTraces p traces
    pub alpha_is : IsInputChallenge positive alpha a
    pub beta_is : IsInputChallenge positive beta b
    pub ids_are : ArePlannedIds ids sizes
    pub as_many : length ids ≡ length lookups

  -- the same, of lookups that fit the traces
  pub record IsPlannedAir (lookups : List (Lookup (Residue p))) (a b : Quartic (Residue p)) : Type 0 where
    pub read : IsPlannedInput lookups a b
    pub fitting : GenerateFits (decoded_traces positive traces) lookups

  -- The refusal of the tables, of the traces, of a challenge, of the sizes or an id, of the number of ids, or of
  -- lookups that do not fit.
  abbrev pub IsPlannedAirRefusal : Fault → Type 0
  IsPlannedAirRefusal fault =
      IsInputTableRefusal p 0 tables fault
      ⊎ (IsInputTracesRefusal p 0 traces fault
      ⊎ (IsInputChallengeRefusal p Alphas alpha fault
      ⊎ (IsInputChallengeRefusal p Betas beta fault
      ⊎ (IsPlannedIdsRefusal ids sizes fault
      ⊎ (((lookups : List (Lookup (Residue p))) × TablesEncode tables lookups × (length ids ≢ length lookups) × (fault ≡ Length Ids (length lookups) (length ids)))
      ⊎ ((lookups : List (Lookup (Residue p))) × (a : Quartic (Residue p)) × (b : Quartic (Residue p)) × IsPlannedInput lookups a b × IsGenerateUnfit (decoded_traces positive traces) lookups fault))))))

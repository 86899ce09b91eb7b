-- Plans whose constraints enforce the weights of all lookups, and what is refused otherwise.
use Rattle.std.specs.Prelude.{◌≡◌, ◌≢◌, ◌⊎◌, ℕ, All, Bool, List, length, map}
use Rattle.std.specs.List.{AllZip, zip}
use Rattle.std.specs.Option.{option_map}
use Rattle.std.specs.String.{string_bytes}
use Rattle.std.specs.declared.alloc.Global.{Global}
use Rattle.std.specs.declared.vec.Vec.{Vec}
use Rattle.air_expressions.specs.Faults.{HasFirstFault}
use Rattle.air_expressions.specs.declared.base_expression.SymbolicExpression.{SymbolicExpression}
use Rattle.batch.specs.Plans.{FitPlan, Plan, plan_batch}
use Rattle.batch.specs.declared.trace.BatchTrace.{BatchTrace}
use Rattle.batch_enforced.specs.Constrained.{HoldOnBatch}
use Rattle.batch_enforced.specs.EnforcedPlans.{constrained_airs}
use Rattle.batch_enforced.specs.Queries.{ProvidesQueries}
use Rattle.batch_enforced.specs.declared.weights.UnshownWeight.{UnshownWeight}
use Rattle.batch_enforced.specs.declared.weights.WeightError.{WeightError}
use Rattle.batch_enforced.specs.declared.weights.WeightError.TheVariants.{LengthMismatch, LookupMismatch, Memory, Weight}
use Rattle.field.specs.Ring.{Ring}
use Rattle.lookup.specs.Lookups.{lookups_of}
use Rattle.lookup.specs.declared.lookups.Lookups.{Lookups}
use Rattle.lookup_enforced.specs.Enforced.{EnforcesWeight}
use Rattle.lookup_model.specs.Outline.{bus_of}
use Rattle.lookup_model.specs.declared.types.Lookup.{Lookup}

-- which tuples are queries, lookup by lookup, as a value of the program holds it
abbrev pub query_lists : List (Vec Bool Global) → List (List Bool)
query_lists queries = map (λ list. list.items) queries

-- so AIR by AIR
abbrev pub queries_of : List (Vec (Vec Bool Global) Global) → List (List (List Bool))
queries_of queries = map (λ lists. query_lists lists.items) queries

-- which tuples of an AIR are queries, its constraints, its lookups, and the height of its traces
abbrev pub QueriedAir : Type 0 → Type 0
QueriedAir F = List (List Bool) × (List (SymbolicExpression F) × (Lookups F × ℕ))

-- those of each AIR
abbrev pub queried_airs : {F : Type 0} → List (List (List Bool)) → List (List (SymbolicExpression F)) → List (Lookups F) → List ℕ → List (QueriedAir F)
queried_airs queries constraints airs heights = zip queries (constrained_airs constraints airs heights)

-- this lookup of this AIR is named, with its bus
pub record IsUnshownWeight {F : Type 0} (air index : ℕ) (lookup : Lookup F) (unshown : UnshownWeight) : Type 0 where
  pub air_is : unshown.air ≡ air
  pub lookup_is : unshown.lookup ≡ index
  pub bus_is : option_map string_bytes unshown.bus ≡ bus_of lookup.kind

module _ {F : Type 0} (R : Ring F) (eq : F → F → Bool) where
  -- the weights of the lookups of an AIR are enforced at the height of its traces
  abbrev pub EnforcesAllWeights : QueriedAir F → Type 0
  EnforcesAllWeights air = AllZip (EnforcesWeight R eq air.1.1.1 air.1.0) (lookups_of air.1.1.0) air.0

  -- so those of each AIR of a plan are
  abbrev pub EnforceAllWeights : List (List (List Bool)) → List (List (SymbolicExpression F)) → List (Lookups F) → List ℕ → Type 0
  EnforceAllWeights queries constraints airs heights = All EnforcesAllWeights (queried_airs queries constraints airs heights)

  -- The fault of an AIR: another number of lists than of lookups, else a lookup, where the weights of all before it
  -- are enforced.
  abbrev pub IsWeightFault : ℕ → List (List Bool) → List (SymbolicExpression F) → List (Lookup F) → ℕ → WeightError → Type 0
  IsWeightFault air queries constraints lookups height e =
      ((length queries ≢ length lookups) × (e ≡ LookupMismatch air (length lookups) (length queries)))
      ⊎ ((length queries ≡ length lookups) × ((unshown : UnshownWeight) × HasFirstFault (λ t. EnforcesWeight R eq height constraints t.0 t.1) (λ i t. IsUnshownWeight air i t.0 unshown) (zip lookups queries) × (e ≡ Weight unshown)))

  -- the fault of the first AIR that has one: the weights of all AIRs before it are enforced
  abbrev pub IsFirstWeightFault : List (List (List Bool)) → List (List (SymbolicExpression F)) → List (Lookups F) → List ℕ → WeightError → Type 0
  IsFirstWeightFault queries constraints airs heights e =
      HasFirstFault EnforcesAllWeights (λ index air. IsWeightFault index air.0 air.1.0 (lookups_of air.1.1.0) air.1.1.1 e) (queried_airs queries constraints airs heights)

  -- The refusal of a plan whose weights are not shown to be enforced: for the number of lists, else the fault of the first
  -- AIR that has one. Or memory runs out.
  abbrev pub IsWeightRefusal : List (List (List Bool)) → List (List (SymbolicExpression F)) → List (Lookups F) → List ℕ → WeightError → Type 0
  IsWeightRefusal queries constraints airs heights e =
      (e ≡ Memory)
      ⊎ (((length queries ≢ length airs) × (e ≡ LengthMismatch (length airs) (length queries)))
      ⊎ ((length queries ≡ length airs) × IsFirstWeightFault queries constraints airs heights e))

  -- Over all traces that fit a plan, and on whose rows the constraints are zero, queries are provided.
  abbrev pub ProvidesOverConstrained : Plan F → List (List (SymbolicExpression F)) → List (List (List Bool)) → Type 0
  ProvidesOverConstrained plan constraints queries =
      (traces : List (BatchTrace F)) → FitPlan plan traces → HoldOnBatch R constraints (plan_batch plan traces) → ProvidesQueries R eq (plan_batch plan traces) queries

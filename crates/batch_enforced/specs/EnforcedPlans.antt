-- Plans with the constraints of their AIRs, which enforce all flags, and what is refused otherwise.
use Rattle.std.specs.Prelude.{◌≡◌, ◌≢◌, ◌⊎◌, ℕ, All, Bool, List, length, map}
use Rattle.std.specs.List.{zip}
use Rattle.std.specs.Option.{IsSome, option_map}
use Rattle.std.specs.String.{string_bytes}
use Rattle.std.specs.declared.alloc.Global.{Global}
use Rattle.std.specs.declared.vec.Vec.{Vec}
use Rattle.air_expressions.specs.Faults.{HasFirstFault}
use Rattle.air_expressions.specs.declared.base_expression.SymbolicExpression.{SymbolicExpression}
use Rattle.batch.specs.PlanFacts.{IsPlan}
use Rattle.batch.specs.Plans.{Plan}
use Rattle.batch.specs.declared.error.BatchError.{BatchError}
use Rattle.batch.specs.declared.error.BatchError.TheVariants as batch
use Rattle.batch_enforced.specs.Constrained.{EnforcesAllFlags}
use Rattle.batch_enforced.specs.declared.error.EnforcementError.{EnforcementError}
use Rattle.batch_enforced.specs.declared.error.EnforcementError.TheVariants.{Flags, LengthMismatch, Memory, Plan as OfPlan}
use Rattle.batch_enforced.specs.declared.unshown.UnshownFlags.{UnshownFlags}
use Rattle.field.specs.Ring.{Ring}
use Rattle.lookup.specs.Lookups.{lookups_of}
use Rattle.lookup.specs.declared.lookups.Lookups.{Lookups}
use Rattle.lookup_enforced.specs.Enforced.{EnforcesFlags}
use Rattle.lookup_model.specs.Outline.{bus_of}
use Rattle.lookup_model.specs.declared.types.Lookup.{Lookup}

-- the constraints that a value of the program holds, AIR by AIR
abbrev pub constraints_of : {F : Type 0} → List (Vec (SymbolicExpression F) Global) → List (List (SymbolicExpression F))
constraints_of constraints = map (λ list. list.items) constraints

-- the constraints of each AIR, beside its lookups and the height of its traces
abbrev pub constrained_airs : {F : Type 0} → List (List (SymbolicExpression F)) → List (Lookups F) → List ℕ → List (List (SymbolicExpression F) × (Lookups F × ℕ))
constrained_airs constraints airs heights = zip constraints (zip airs heights)

-- This lookup of this AIR is named, with its bus. It has flags.
pub record IsUnshown {F : Type 0} (air index : ℕ) (lookup : Lookup F) (unshown : UnshownFlags) : Type 0 where
  pub flags : IsSome lookup.flags
  pub air_is : unshown.air ≡ air
  pub lookup_is : unshown.lookup ≡ index
  pub bus_is : option_map string_bytes unshown.bus ≡ bus_of lookup.kind

-- The refusal of numbers of lists: of constraints, else of heights, as the plan refuses them.
abbrev pub IsNumberRefusal : ℕ → ℕ → ℕ → EnforcementError → Type 0
IsNumberRefusal airs heights constraints e =
    ((constraints ≢ airs) × (e ≡ LengthMismatch airs constraints))
    ⊎ ((constraints ≡ airs) × (heights ≢ airs) × (e ≡ OfPlan (batch.LengthMismatch airs heights)))

module _ {F : Type 0} (R : Ring F) (eq : F → F → Bool) where
  -- the constraints of an AIR enforce the flags of its lookups, at the height of its traces
  abbrev pub HasEnforcedFlags : List (SymbolicExpression F) × (Lookups F × ℕ) → Type 0
  HasEnforcedFlags air = EnforcesAllFlags R eq air.1.1 air.0 (lookups_of air.1.0)

  -- so those of each AIR of a plan do
  abbrev pub HaveEnforcedFlags : List (List (SymbolicExpression F)) → List (Lookups F) → List ℕ → Type 0
  HaveEnforcedFlags constraints airs heights = All HasEnforcedFlags (constrained_airs constraints airs heights)

  -- A lookup of an AIR is named, and the flags of all before it are enforced.
  abbrev pub IsFirstUnshownOf : ℕ → List (SymbolicExpression F) × (Lookups F × ℕ) → UnshownFlags → Type 0
  IsFirstUnshownOf index air unshown =
      HasFirstFault (EnforcesFlags R eq air.1.1 air.0) (λ i lookup. IsUnshown index i lookup unshown) (lookups_of air.1.0)

  -- so it is with an AIR, and the flags of all AIRs before it are enforced
  abbrev pub IsFirstUnshown : List (List (SymbolicExpression F)) → List (Lookups F) → List ℕ → UnshownFlags → Type 0
  IsFirstUnshown constraints airs heights unshown =
      HasFirstFault HasEnforcedFlags (λ index air. IsFirstUnshownOf index air unshown) (constrained_airs constraints airs heights)

  -- The refusal of AIRs with constraints: for the number of their lists, else that of the plan, else a lookup with
  -- flags, where those of all lookups before it are enforced. Or memory runs out. Over a field of characteristic p, these are
  -- the plans that are made of the AIRs, and the refusals of these plans.
  abbrev pub IsEnforcementRefusal : ℕ → (Plan F → Type 0) → (BatchError → Type 0) → List (Lookups F) → List ℕ → List (List (SymbolicExpression F)) → EnforcementError → Type 0
  IsEnforcementRefusal p Made Refused airs heights constraints e =
      (e ≡ Memory)
      ⊎ (((length constraints ≢ length airs) × (e ≡ LengthMismatch (length airs) (length constraints)))
      ⊎ ((length constraints ≡ length airs)
      × (((error : BatchError) × Refused error × (e ≡ OfPlan error))
      ⊎ ((plan : Plan F) × IsPlan p plan × Made plan × ((unshown : UnshownFlags) × IsFirstUnshown constraints airs heights unshown × (e ≡ Flags unshown))))))

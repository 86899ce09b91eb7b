-- Batches of AIRs whose constraints enforce the flags of their lookups, and hold on their traces.
use Rattle.std.specs.Prelude.{ℕ, All, Bool, List}
use Rattle.std.specs.List.{AllZip}
use Rattle.air.specs.Traces.{height_of}
use Rattle.air_constraints.specs.Hold.{HoldOn}
use Rattle.air_expressions.specs.declared.base_expression.SymbolicExpression.{SymbolicExpression}
use Rattle.field.specs.Ring.{Ring}
use Rattle.lookup_enforced.specs.Enforced.{EnforcesFlags}
use Rattle.lookup_model.specs.Batches.Instances.{Instance}
use Rattle.lookup_model.specs.declared.types.Lookup.{Lookup}

module _ {F : Type 0} (R : Ring F) where
  -- the constraints of each AIR of a batch are zero on each row of its traces
  abbrev pub HoldOnBatch : List (List (SymbolicExpression F)) → List (Instance F) → Type 0
  HoldOnBatch constraints instances = AllZip (λ cs i. HoldOn R i.traces cs) constraints instances

  module _ (eq : F → F → Bool) where
    -- the constraints of an AIR enforce the flags of all of its lookups, on traces of this height
    abbrev pub EnforcesAllFlags : ℕ → List (SymbolicExpression F) → List (Lookup F) → Type 0
    EnforcesAllFlags height constraints lookups = All (EnforcesFlags R eq height constraints) lookups

    -- the constraints of an AIR enforce its flags at the height of its traces, and are zero on each row of them
    pub record IsConstrained (constraints : List (SymbolicExpression F)) (instance : Instance F) : Type 0 where
      pub enforces : EnforcesAllFlags (height_of instance.traces) constraints instance.lookups
      pub hold : HoldOn R instance.traces constraints

    -- so it is with each AIR of a batch
    abbrev pub AreConstrained : List (List (SymbolicExpression F)) → List (Instance F) → Type 0
    AreConstrained constraints instances = AllZip IsConstrained constraints instances

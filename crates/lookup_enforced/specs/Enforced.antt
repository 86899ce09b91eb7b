-- What the constraints of an AIR enforce of its lookups, on rows of traces of a height.
use Rattle.std.specs.Prelude.{◌≡◌, ℕ, Bool, IsNone, IsTrue, IfSome, List, Option, None, Some, is_none, map}
use Rattle.std.specs.List.{AllZip}
use Rattle.std.specs.Option.{is_some}
use Rattle.air_constraints.specs.Bounds.{IsWithin}
use Rattle.air_constraints.specs.Hold.{Hold, IsRowOf}
use Rattle.air_expressions.specs.Window.{Window}
use Rattle.air_expressions.specs.declared.base_expression.SymbolicExpression.{SymbolicExpression}
use Rattle.field.specs.Ring.{Ring}
use Rattle.lookup.specs.Weights.{KeepsWeight, Role}
use Rattle.lookup_enforced.specs.declared.enforcement.Enforcement.{Enforcement}
use Rattle.lookup_enforced.specs.declared.enforcement.Missing.{Missing}
use Rattle.lookup_model.specs.Fault.{IsLawfulSelection}
use Rattle.lookup_model.specs.Sent.{chosen_branches, flags_at, sent_at, value, values}
use Rattle.lookup_model.specs.declared.types.Lookup.{Lookup}

-- Of items, one for each tuple of a lookup, those that are sent: all without flags, and with flags those
-- whose flag is set.
abbrev pub sent_items : {F X : Type 0} → Ring F → (F → F → Bool) → Option (List F) → List X → List X
sent_items R eq None items = items
sent_items R eq (Some flags) items = chosen_branches R eq flags items

module _ {F : Type 0} (R : Ring F) where
  -- A property holds on each row of traces of this height on which the constraints hold.
  abbrev pub HoldsOnRows : ℕ → List (SymbolicExpression F) → (Window F → Type 0) → Type 0
  HoldsOnRows height constraints P = (w : Window F) → IsRowOf height w → Hold R w constraints → P w

  -- a multiplicity is a signed whole number within a bound on each such row
  abbrev pub IsWithinBound : ℕ → List (SymbolicExpression F) → SymbolicExpression F → ℕ → Type 0
  IsWithinBound height constraints multiplicity bound =
      HoldsOnRows height constraints (λ w. IsWithin R bound (value R w multiplicity))

  module _ (eq : F → F → Bool) (height : ℕ) (constraints : List (SymbolicExpression F)) where
    -- the flags of a lookup are lawful on each such row, if it has flags
    abbrev pub EnforcesFlags : Lookup F → Type 0
    EnforcesFlags lookup =
        IfSome lookup.flags (λ flags. HoldsOnRows height constraints (λ w. IsLawfulSelection R eq (values R w flags.items)))

    -- On each such row each tuple has a role, which is that of a query exactly where the list says so, and with
    -- the roles of what it sends the lookup keeps its weight.
    abbrev pub EnforcesWeight : Lookup F → List Bool → Type 0
    EnforcesWeight lookup queries =
        HoldsOnRows height constraints (λ w. (roles : List Role) × (map is_some roles ≡ queries)
        × ((id : ℕ) → KeepsWeight R lookup (sent_at R eq w id lookup) (sent_items R eq (flags_at R w lookup) roles)))

    -- The flags of a lookup are enforced if nothing is missing, and nothing is where there are no flags.
    pub record IsMissing (lookup : Lookup F) (missing : Option Missing) : Type 0 where
      pub enforces : IsNone missing → EnforcesFlags lookup
      pub plain : IsNone lookup.flags → IsNone missing

    -- What is shown of a lookup is so: its flags are enforced if nothing is missing, and each multiplicity that
    -- has a bound is within it. Nothing is missing where there are no flags.
    pub record IsEnforcement (lookup : Lookup F) (e : Enforcement) : Type 0 where
      pub flags : IsTrue e.flags → EnforcesFlags lookup
      pub missing : e.flags ≡ is_none e.missing
      pub plain : IsNone lookup.flags → IsTrue e.flags
      pub bounds : AllZip (λ m b. IfSome b (IsWithinBound height constraints m)) lookup.multiplicities.items e.bounds.items

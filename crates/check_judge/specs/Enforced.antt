-- What the constraints of AIRs are shown to enforce of their lookups.
use Rattle.std.specs.Prelude.{◌≡◌, ◌↔◌, ℕ, All, Bool, IsTrue, List, map}
use Rattle.std.specs.List.{AllZip, zip}
use Rattle.field.specs.Ring.{Ring}
use Rattle.air.specs.Traces.{height_of}
use Rattle.air_expressions.specs.Tree.{tree_of}
use Rattle.air_expressions.specs.declared.base_expression.SymbolicExpression.{SymbolicExpression}
use Rattle.language.specs.Batches.{Air}
use Rattle.language_meaning.specs.Columns.{constraints_in}
use Rattle.language_meaning.specs.Lookups.{Said}
use Rattle.language_meaning.specs.Shapes.{Shape}
use Rattle.lookup_enforced.specs.Enforced.{EnforcesWeight, IsEnforcement}
use Rattle.lookup_enforced.specs.Fixed.{FollowOver}
use Rattle.lookup_enforced.specs.Weights.{StaysWithinWeight}
use Rattle.lookup_enforced.specs.declared.enforcement.Enforcement.{Enforcement}
use Rattle.lookup_model.specs.declared.types.Lookup.{Lookup}
use Rattle.check_judge.specs.Constraints.{Constrained}
use Rattle.check_judge.specs.Counts.{counts_for, counts_in, queries_of}
use Rattle.check_judge.specs.Said.{AreLookupsOf}
use Rattle.check_judge.specs.declared.counts.SaidCount.{SaidCount}
use Rattle.check_judge.specs.declared.enforced.EnforcedAir.{EnforcedAir}

-- the lookups of an AIR with its constraints and with what is said of counts, for traces of a height
pub record Asserted (F : Type 0) : Type 0 where
  pub lookups : List (Lookup F)
  pub constraints : List (SymbolicExpression F)
  pub counts : List (List SaidCount)
  pub height : ℕ

-- Those of AIRs for traces of these shapes are what the AIRs say.
pub record AreAsserted {F : Type 0} (element : ℕ → F) (text : List ℕ) (airs : List Air) (shapes : List Shape) (said : List Said) (xs : List (Asserted F)) : Type 0 where
  pub lookups : AllZip (λ s x. AreLookupsOf element text s x.lookups) said xs
  pub constraints : map (λ x. map tree_of x.constraints) xs ≡ map (λ s. constraints_in element s.constraints) said
  pub counts : map (λ x. x.counts) xs ≡ map (λ a. counts_in a.items) airs
  pub heights : map (λ x. x.height) xs ≡ map (λ s. s.rows) shapes

module _ {F : Type 0} (R : Ring F) (eq : F → F → Bool) where
  -- Whether the weight of a lookup is kept, by what is shown of it and by which of its messages are queries: it is
  -- kept exactly if the bounds of the queries stay within it, and then all constraints that enforce what is shown enforce
  -- the weight.
  pub record IsWeightShown (lookup : Lookup F) (shown : Enforcement) (queries : List Bool) (kept : Bool) : Type 0 where
    pub answer : IsTrue kept ↔ StaysWithinWeight lookup shown queries
    pub enforced : IsTrue kept → (height : ℕ) (constraints : List (SymbolicExpression F)) → IsEnforcement R eq height constraints lookup shown → EnforcesWeight R eq height constraints lookup queries

  -- What is shown of each lookup of an AIR is so for its constraints, at its height; and so is what is said of the weights
  -- of its lookups, of which all messages are queries but those that are provided.
  pub record IsEnforcedAir (x : Asserted F) (found : EnforcedAir) : Type 0 where
    pub lookups : AllZip (IsEnforcement R eq x.height x.constraints) x.lookups found.lookups.items
    pub weights : AllZip (λ p kept. IsWeightShown p.0 p.1 (queries_of (counts_for x.counts p.0.column)) kept) (zip x.lookups found.lookups.items) found.weights.items

  -- so it is of each AIR
  abbrev pub AreEnforcedAirs : List (Asserted F) → List EnforcedAir → Type 0
  AreEnforcedAirs xs found = AllZip IsEnforcedAir xs found

  -- What is shown of an AIR over its traces is so for constraints that hold on all traces of this height, with this
  -- preprocessed trace, on which those of the AIR do.
  pub record IsEnforcedOver (x : Constrained F) (found : EnforcedAir) : Type 0 where
    pub known : List (SymbolicExpression F)
    pub follow : FollowOver R x.traces.preprocessed (height_of x.traces) x.constraints known
    pub enforced : IsEnforcedAir (record { lookups = x.lookups; constraints = known; counts = x.counts; height = height_of x.traces }) found

  -- so it is of each AIR
  abbrev pub AreEnforcedOver : List (Constrained F) → List EnforcedAir → Type 0
  AreEnforcedOver xs found = AllZip IsEnforcedOver xs found

-- all flags and all weights of an AIR are shown to be enforced
pub record IsAllEnforced (found : EnforcedAir) : Type 0 where
  pub flags : All (λ e. IsTrue e.flags) found.lookups.items
  pub weights : All IsTrue found.weights.items

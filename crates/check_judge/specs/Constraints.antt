-- What is found of the constraints of AIRs.
use Rattle.std.specs.Prelude.{◌≡◌, ℕ, All, List, None, Option, Some, map}
use Rattle.std.specs.List.{AllZip}
use Rattle.field.specs.Ring.{Ring}
use Rattle.air.specs.Traces.{AirTraces, window_of}
use Rattle.air_constraints.specs.Checked.{IsFirstFault}
use Rattle.air_constraints.specs.Hold.{HoldOn, value_at}
use Rattle.air_expressions.specs.Tree.{tree_of}
use Rattle.air_expressions.specs.declared.base_expression.SymbolicExpression.{SymbolicExpression}
use Rattle.language.specs.Batches.{Air, Section}
use Rattle.language_meaning.specs.Columns.{constraints_in}
use Rattle.language_meaning.specs.Lookups.{Said}
use Rattle.language_meaning.specs.Shapes.{column_names}
use Rattle.language_meaning.specs.Tables.{TablesOf}
use Rattle.check_judge.specs.Airs.{over_traced}
use Rattle.lookup.specs.Lookups.{lookups_of}
use Rattle.lookup_model.specs.declared.types.Lookup.{Lookup}
use Rattle.check_judge.specs.Counts.{counts_in}
use Rattle.check_judge.specs.Said.{AreEach, AreLookupsOf, SaysOver, traces_in}
use Rattle.check_judge.specs.declared.counts.SaidCount.{SaidCount}
use Rattle.check_judge.specs.declared.airs.AirOver.{AirOver}
use Rattle.check_judge.specs.declared.constraints.ConstraintFailure.{ConstraintFailure}

-- the traces of an AIR, its constraints and lookups over a field, and what is said of the counts of each lookup
pub record Constrained (F : Type 0) : Type 0 where
  pub traces : AirTraces F
  pub constraints : List (SymbolicExpression F)
  pub lookups : List (Lookup F)
  pub counts : List (List SaidCount)

-- those of an AIR, as the program holds them
abbrev pub over_constrained : {F : Type 0} → AirOver F → Constrained F
over_constrained a = record { traces = (over_traced a).traces; constraints = a.constraints.items; lookups = lookups_of a.lookups; counts = map (λ c. c.items) a.counts.items }

module _ {F : Type 0} (element : ℕ → F) (text : List ℕ) (sections : List Section) where
  -- The constraints, the lookups and the traces of an AIR are those that its items and its tables say.
  pub record IsConstrained (a : Air) (tables : TablesOf) (room : ℕ) (said : Said) (x : Constrained F) : Type 0 where
    pub items : SaysOver text sections a tables.main.0 (column_names tables.preprocessed) room said
    pub traces : x.traces ≡ traces_in element tables said
    pub constraints : map tree_of x.constraints ≡ constraints_in element said.constraints
    pub lookups : AreLookupsOf element text said x.lookups
    pub counts : x.counts ≡ counts_in a.items

  -- so it is of each AIR, with tables for each
  abbrev pub AreConstrained : ℕ → List Air → List TablesOf → List (Constrained F) → Type 0
  AreConstrained = AreEach IsConstrained

module _ {F : Type 0} (R : Ring F) where
  -- The first row of an AIR on which a constraint is not zero, the first such constraint on it, and its value there.
  pub record IsFailure (x : Constrained F) (failure : ConstraintFailure F) : Type 0 where
    pub first : IsFirstFault R x.traces x.constraints (record { row = failure.row; constraint = failure.constraint })
    pub value_is : failure.value ≡ value_at R (window_of x.traces failure.row) first.fails.constraint

  -- what is found of the constraints of an AIR: nothing where they are zero on all rows
  abbrev pub IsChecked : Constrained F → Option (ConstraintFailure F) → Type 0
  IsChecked x None = HoldOn R x.traces x.constraints
  IsChecked x (Some failure) = IsFailure x failure

  -- what is found of those of each AIR
  abbrev pub AreChecked : List (Constrained F) → List (Option (ConstraintFailure F)) → Type 0
  AreChecked xs failures = AllZip IsChecked xs failures

  -- all constraints of all AIRs are zero on all rows
  abbrev pub AllHold : List (Constrained F) → Type 0
  AllHold xs = All (λ x. HoldOn R x.traces x.constraints) xs

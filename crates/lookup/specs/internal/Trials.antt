-- One step of a filling: an open column, and the lookup that is tried in it.
use Rattle.std.specs.Prelude.{◌≡◌, ◌+◌, ◌<◌, ◌≤◌, ◌⊎◌, ℕ, List, [], ◌∷◌, ◌++◌, Option, None, Some, Result, Ok, Err}
use Rattle.air_expressions.specs.declared.base_expression.SymbolicExpression.{SymbolicExpression}
use Rattle.lookup_model.specs.Outline.{Outline, fields_of}
use Rattle.lookup_model.specs.Weight.{weight_bound}
use Rattle.lookup_model.specs.declared.error.LookupError.{LookupError}
use Rattle.lookup_model.specs.declared.error.LookupError.TheVariants.{CountWeightOverflow}
use Rattle.lookup_model.specs.declared.types.Lookup.{Lookup}
use Rattle.lookup.specs.Packing.{trial}
use Rattle.lookup.specs.Trials.{IsMember}

module _ {F : Type 0} where
  module _ (answers : Outline (SymbolicExpression F) → Result ℕ LookupError → Type 0) (max_degree : ℕ) where
    -- the answer to a trial is within the degree, or above it
    abbrev pub IsLow : Outline (SymbolicExpression F) → Outline (SymbolicExpression F) → Type 0
    IsLow a b = (n : ℕ) × answers (trial a b) (Ok n) × (n ≤ max_degree)

    abbrev pub IsHigh : Outline (SymbolicExpression F) → Outline (SymbolicExpression F) → Type 0
    IsHigh a b = (n : ℕ) × answers (trial a b) (Ok n) × (max_degree < n)

    -- A column and a lookup after their trial: they are joined, or both stay as they are, and the lookup is
    -- left over.
    abbrev pub IsTried : Lookup F → Lookup F → Lookup F → Option (Lookup F) → Type 0
    IsTried a b after None =
        IsMember after × IsLow (fields_of a) (fields_of b) × ((fields_of a).count_weight + (fields_of b).count_weight < weight_bound)
        × (fields_of after ≡ record (trial (fields_of a) (fields_of b)) { count_weight = (fields_of a).count_weight + (fields_of b).count_weight })
    IsTried a b after (Some left) =
        IsMember after × IsMember left × IsHigh (fields_of a) (fields_of b) × (fields_of after ≡ fields_of a) × (fields_of left ≡ fields_of b)

    -- the refusal of a trial: the closure's, or that of a sum of weights that does not fit
    abbrev pub IsTrialRefusal : Outline (SymbolicExpression F) → Outline (SymbolicExpression F) → LookupError → Type 0
    IsTrialRefusal a b e =
        answers (trial a b) (Err e) ⊎ ((e ≡ CountWeightOverflow) × IsLow a b × (weight_bound ≤ a.count_weight + b.count_weight))

    -- Columns of which the last one is open, with one more lookup: in the open one, or in one behind it.
    abbrev pub IsStep : List (Outline (SymbolicExpression F)) → Outline (SymbolicExpression F) → Outline (SymbolicExpression F) → List (Outline (SymbolicExpression F)) → Type 0
    IsStep front last next after =
        (IsLow last next × (last.count_weight + next.count_weight < weight_bound)
        × (after ≡ front ++ record (trial last next) { count_weight = last.count_weight + next.count_weight } ∷ []))
        ⊎ (IsHigh last next × (after ≡ (front ++ last ∷ []) ++ next ∷ []))

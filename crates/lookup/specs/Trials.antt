-- What a closure is asked, and what it answers: trials of lookups joined with the next one.
use Rattle.std.specs.Prelude.{◌≡◌, ℕ, List, ◌∷◌, ◌++◌, None, Result}
use Rattle.air_expressions.specs.declared.base_expression.SymbolicExpression.{SymbolicExpression}
use Rattle.lookup_model.specs.Outline.{Outline, fields_of}
use Rattle.lookup_model.specs.Records.{HasEqualLengths}
use Rattle.lookup_model.specs.declared.error.LookupError.{LookupError}
use Rattle.lookup_model.specs.declared.types.Lookup.{Lookup}
use Rattle.lookup.specs.Buses.{on_bus}
use Rattle.lookup.specs.Cuts.{part_items}
use Rattle.lookup.specs.Packing.{additive_lookups, joined_lookup, trial}

module _ {F : Type 0} where
  -- what a closure answers to a lookup with these fields
  abbrev pub AnswersTrial : (Lookup F → Result ℕ LookupError → Type 0) → Outline (SymbolicExpression F) → Result ℕ LookupError → Type 0
  AnswersTrial returns o r = (lookup : Lookup F) × (fields_of lookup ≡ o) × HasEqualLengths lookup × returns lookup r

  -- a well formed lookup without flags
  pub record IsMember (lookup : Lookup F) : Type 0 where
    pub lengths : HasEqualLengths lookup
    pub no_flags : lookup.flags ≡ None

  -- what a closure is asked about: a well formed lookup with the fields of a trial
  pub record IsTrial (a b : Outline (SymbolicExpression F)) (lookup : Lookup F) : Type 0 where
    pub member : IsMember lookup
    pub fields_are : fields_of lookup ≡ trial a b

  -- A trial among these lookups: of one or more that stand one after the other, joined, with the next.
  pub record IsTrialAmong (members : List (Outline (SymbolicExpression F))) (lookup : Lookup F) : Type 0 where
    pub front : List (Outline (SymbolicExpression F))
    pub part : Outline (SymbolicExpression F) × List (Outline (SymbolicExpression F))
    pub next : Outline (SymbolicExpression F)
    pub back : List (Outline (SymbolicExpression F))
    pub members_are : members ≡ front ++ part_items part ++ next ∷ back
    pub is_trial : IsTrial (joined_lookup part) next lookup

  -- a trial among the lookups of one bus that may be joined
  abbrev pub IsBusTrial : List (Outline (SymbolicExpression F)) → Lookup F → Type 0
  IsBusTrial os lookup = (name : List ℕ) × IsTrialAmong (on_bus name (additive_lookups os)) lookup

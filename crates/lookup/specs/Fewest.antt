-- Fewest columns: no consecutive split of a bus has fewer.
use Rattle.std.specs.Prelude.{◌≡◌, ◌<◌, ◌≤◌, ◌^◌, ◌⊎◌, ℕ, List, [], length, Result, IfOk}
use Rattle.std.specs.List.{AllByRecursion}
use Rattle.air_expressions.specs.declared.base_expression.SymbolicExpression.{SymbolicExpression}
use Rattle.lookup_model.specs.LookupDegree.{IsDegree, outline_degree}
use Rattle.lookup_model.specs.Outline.{Outline}
use Rattle.lookup_model.specs.declared.error.LookupError.{LookupError}
use Rattle.lookup.specs.Buses.{on_bus}
use Rattle.lookup.specs.Cuts.{IsCut}
use Rattle.lookup.specs.Packing.{additive_lookups, joined_lookup}

module _ {F : Type 0} where
  -- what the gadget answers to a lookup, where the transition selector has degree 0: the degree, exactly
  -- if it fits 64 bits
  abbrev pub AnswersDegree : Outline (SymbolicExpression F) → Result ℕ LookupError → Type 0
  AnswersDegree o r = IsDegree r (outline_degree 0 o) × IfOk r (λ n. n < 2 ^ 64)

  -- For each bus there are no more columns than any consecutive split of its lookups has parts, if
  -- each part has one member or a joined lookup whose degree is within the budget.
  abbrev pub HasFewestColumns : ℕ → List (Outline (SymbolicExpression F)) → List (Outline (SymbolicExpression F)) → Type 0
  HasFewestColumns max_degree before after =
      (name : List ℕ) (split : List (Outline (SymbolicExpression F) × List (Outline (SymbolicExpression F)))) → IsCut split (on_bus name (additive_lookups before))
      → AllByRecursion (λ part. (part.1 ≡ []) ⊎ (outline_degree 0 (joined_lookup part) ≤ max_degree)) split
      → length (on_bus name (additive_lookups after)) ≤ length split

-- What is kept of a lookup, so that its degree is known without a walk over its tuples.
use Rattle.std.specs.Prelude.{◌≡◌, ◌^◌, ◌≤◌, ℕ, Option, None, MatchOption, length}
use Rattle.air_expressions.specs.declared.base_expression.SymbolicExpression.{SymbolicExpression}
use Rattle.lookup_model.specs.LookupDegree.{constraint_degree_of, outline_branch_degrees}
use Rattle.lookup_model.specs.Outline.{Outline}
use Rattle.lookup_model.specs.SumDegrees.{AreSumDegrees}
use Rattle.lookup_model.specs.declared.sum_degrees.SumDegrees.{SumDegrees}

module _ {F : Type 0} where
  -- a lookup without flags that has a multiplicity for each tuple
  pub record IsPlain (o : Outline (SymbolicExpression F)) : Type 0 where
    pub lengths : length o.multiplicities ≡ length o.elements
    pub no_flags : o.flags ≡ None

  -- the degrees of such a lookup's sum of fractions; none if the degree of its constraint does not fit
  pub record KeepsDegrees (kept : Option SumDegrees) (o : Outline (SymbolicExpression F)) : Type 0 where
    pub plain : IsPlain o
    pub known : MatchOption kept (2 ^ 64 ≤ constraint_degree_of None (outline_branch_degrees 0 o)) (AreSumDegrees (outline_branch_degrees 0 o))

  -- the weight does not matter
  pub kept_at_any_weight : (kept : Option SumDegrees) (o : Outline (SymbolicExpression F)) (n : ℕ) → KeepsDegrees kept o → KeepsDegrees kept (record o { count_weight = n })
  kept_at_any_weight kept o n keeps = record { plain = record { lengths = keeps.plain.lengths; no_flags = keeps.plain.no_flags }; known = keeps.known }

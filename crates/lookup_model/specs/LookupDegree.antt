-- The degree of the fraction constraint of a lookup, in whole numbers.
use Rattle.std.specs.Prelude.{◌≡◌, ℕ, ◌+◌, ◌^◌, ◌≤◌, max, List, [], ◌∷◌, Option, None, Some, Result, MatchResult, map}
use Rattle.std.specs.List.{zip}
use Rattle.std.specs.Option.{option_map}
use Rattle.field.specs.Sums.{taken_out}
use Rattle.air_expressions.specs.Degree.{degree_of}
use Rattle.air_expressions.specs.Tree.{tree_of}
use Rattle.air_expressions.specs.declared.base_expression.SymbolicExpression.{SymbolicExpression}
use Rattle.lookup_model.specs.Outline.{Outline}
use Rattle.lookup_model.specs.declared.error.LookupError.{LookupError}
use Rattle.lookup_model.specs.declared.error.LookupError.TheVariants.{DegreeOverflow}
use Rattle.lookup_model.specs.declared.types.Lookup.{Lookup}

-- the greatest number of a list, 0 for the empty list
abbrev pub greatest : List ℕ → ℕ
greatest [] = 0
greatest (n ∷ ns) = max n (greatest ns)

-- the sum of a list of whole numbers
abbrev pub total : List ℕ → ℕ
total [] = 0
total (n ∷ ns) = n + total ns

-- the degrees of a branch: the greatest of its tuple, and that of its multiplicity
pub record BranchDegrees : Type 0 where
  pub tuple : ℕ
  pub multiplicity : ℕ

module _ {F : Type 0} (t : ℕ) where
  -- the degree of an expression if the transition selector has degree t
  abbrev pub expression_degree : SymbolicExpression F → ℕ
  expression_degree e = degree_of t (tree_of e)

  -- the greatest degree of a tuple's elements
  abbrev pub tuple_degree : List (SymbolicExpression F) → ℕ
  tuple_degree es = greatest (map expression_degree es)

  -- the degrees of a tuple with its multiplicity
  abbrev pub branch_degrees : List (SymbolicExpression F) → SymbolicExpression F → BranchDegrees
  branch_degrees tuple multiplicity = record { tuple = tuple_degree tuple; multiplicity = expression_degree multiplicity }

  -- the degrees of the branches of a lookup
  abbrev pub lookup_branch_degrees : Lookup F → List BranchDegrees
  lookup_branch_degrees lookup = map (λ b. branch_degrees b.0.items b.1) (zip lookup.elements.items lookup.multiplicities.items)

  -- those of a lookup by its fields
  abbrev pub outline_branch_degrees : Outline (SymbolicExpression F) → List BranchDegrees
  outline_branch_degrees o = map (λ b. branch_degrees b.0 b.1) (zip o.elements o.multiplicities)

-- the degree of the product of all denominators
abbrev pub additive_denominator_degree : List BranchDegrees → ℕ
additive_denominator_degree bs = total (map (λ b. b.tuple) bs)

-- the greatest degree of a multiplicity times all other denominators
abbrev pub additive_numerator_degree : List BranchDegrees → ℕ
additive_numerator_degree bs = greatest (map (λ b. b.0.multiplicity + additive_denominator_degree b.1) (taken_out bs))

-- the greatest degree of a flag, alone or times its denominator
abbrev pub exclusive_denominator_degree : List ℕ → List BranchDegrees → ℕ
exclusive_denominator_degree flags bs = greatest (map (λ b. max (b.0 + b.1.tuple) b.0) (zip flags bs))

-- the greatest degree of a flag times its multiplicity
abbrev pub exclusive_numerator_degree : List ℕ → List BranchDegrees → ℕ
exclusive_numerator_degree flags bs = greatest (map (λ b. b.0 + b.1.multiplicity) (zip flags bs))

-- the degree of the constraint: that of the denominator times one fraction, or of the numerator
abbrev pub constraint_degree_of : Option (List ℕ) → List BranchDegrees → ℕ
constraint_degree_of None bs = max (1 + additive_denominator_degree bs) (additive_numerator_degree bs)
constraint_degree_of (Some flags) bs = max (1 + exclusive_denominator_degree flags bs) (exclusive_numerator_degree flags bs)

-- The degree of a lookup: that of its fraction constraint, in which a fraction has degree 1 and the
-- challenges have degree 0.
abbrev pub lookup_degree : {F : Type 0} → ℕ → Lookup F → ℕ
lookup_degree t lookup =
    constraint_degree_of (option_map (λ flags. map (expression_degree t) flags.items) lookup.flags) (lookup_branch_degrees t lookup)

-- the degree of each lookup with these fields
abbrev pub outline_degree : {F : Type 0} → ℕ → Outline (SymbolicExpression F) → ℕ
outline_degree t o = constraint_degree_of (option_map (map (expression_degree t)) o.flags) (outline_branch_degrees t o)

-- The answer of a call for a degree: the degree if it fits 64 bits, otherwise the refusal. Every
-- sum of degrees that a degree is made of is at most that degree. So one of them does not fit
-- exactly if the degree does not.
abbrev pub IsDegree : Result ℕ LookupError → ℕ → Type 0
IsDegree result degree = MatchResult result (λ d. d ≡ degree) (λ e. (e ≡ DegreeOverflow) × (2 ^ 64 ≤ degree))

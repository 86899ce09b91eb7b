-- The degrees of a sum of fractions over one common denominator.
use Rattle.std.specs.Prelude.{◌≡◌, ◌^◌, ◌≤◌, ℕ, max, List}
use Rattle.lookup_model.specs.LookupDegree.{BranchDegrees, additive_denominator_degree, additive_numerator_degree}
use Rattle.lookup_model.specs.declared.error.LookupError.{LookupError}
use Rattle.lookup_model.specs.declared.error.LookupError.TheVariants.{DegreeOverflow}
use Rattle.lookup_model.specs.declared.sum_degrees.SumDegrees.{SumDegrees}

-- the greater of the degrees of the denominator and the numerator
abbrev pub greater_degree : List BranchDegrees → ℕ
greater_degree bs = max (additive_denominator_degree bs) (additive_numerator_degree bs)

-- the degree of the denominator, and the greater of its degree and the numerator's
pub record AreSumDegrees (bs : List BranchDegrees) (d : SumDegrees) : Type 0 where
  pub denominator : d.denominator ≡ additive_denominator_degree bs
  pub greatest : d.greatest ≡ greater_degree bs

-- the refusal where the greater degree does not fit 64 bits
abbrev pub IsTooGreat : List BranchDegrees → LookupError → Type 0
IsTooGreat bs e = (e ≡ DegreeOverflow) × (2 ^ 64 ≤ greater_degree bs)

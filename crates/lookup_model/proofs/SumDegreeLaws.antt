-- The degrees of two sums of fractions together.
use Rattle.std.proofs.Common.{◌≡◌, ℕ, ◌+◌, ◌≤◌, max, List, [], ◌∷◌, ◌++◌, None, map, ap, ◌∙◌, arith}
use Rattle.list_laws.proofs.Images.{map-map, map_same}
use Rattle.field.specs.Sums.{taken_out}
use Rattle.lookup_model.specs.LookupDegree.{BranchDegrees, additive_denominator_degree, constraint_degree_of, greatest}
use Rattle.lookup_model.specs.SumDegrees.{greater_degree}

abbrev term : BranchDegrees × List BranchDegrees → ℕ
term t = t.0.multiplicity + additive_denominator_degree t.1

-- a number that is added to each item and to a bound is added to the greatest of all
greatest_raised : {X : Type 0} (f : X → ℕ) (c n : ℕ) (xs : List X) → max (n + c) (greatest (map (λ x. f x + c) xs)) ≡ max n (greatest (map f xs)) + c
greatest_raised f c n [] = omega arith
greatest_raised f c n (x ∷ xs) = omega (arith, greatest_raised f c n xs)

-- one more fraction in front
greater-cons : (b : BranchDegrees) (bs : List BranchDegrees) → greater_degree (b ∷ bs) ≡ max (b.multiplicity + additive_denominator_degree bs) (greater_degree bs + b.tuple)
greater-cons b bs =
    let with_first : BranchDegrees × List BranchDegrees → BranchDegrees × List BranchDegrees = λ t. (t.0, b ∷ t.1) in
    let others : greatest (map term (map with_first (taken_out bs))) ≡ greatest (map (λ t. term t + b.tuple) (taken_out bs)) =
    ap greatest (map-map term with_first (taken_out bs) ∙ map_same (λ (t : BranchDegrees × List BranchDegrees). t.0.multiplicity + (b.tuple + additive_denominator_degree t.1)) (λ (t : BranchDegrees × List BranchDegrees). t.0.multiplicity + additive_denominator_degree t.1 + b.tuple) (λ t. omega arith) (taken_out bs)) in
    omega (arith, others, greatest_raised term b.tuple (additive_denominator_degree bs) (taken_out bs))

-- the denominators of both
pub denominator_of_both : (first second : List BranchDegrees) → additive_denominator_degree (first ++ second) ≡ additive_denominator_degree first + additive_denominator_degree second
denominator_of_both [] second = omega arith
denominator_of_both (b ∷ first) second = omega (arith, denominator_of_both first second)

-- and the greater degree of both: each times the other's denominator
pub greater_of_both : (first second : List BranchDegrees)
    → greater_degree (first ++ second) ≡ max (greater_degree first + additive_denominator_degree second) (greater_degree second + additive_denominator_degree first)
greater_of_both [] second = omega arith
greater_of_both (b ∷ first) second =
    omega (arith, greater-cons b (first ++ second), greater-cons b first, greater_of_both first second, denominator_of_both first second)

-- the degree of the constraint by them
pub degree_is : (bs : List BranchDegrees) → constraint_degree_of None bs ≡ max (1 + additive_denominator_degree bs) (greater_degree bs)
degree_is bs = omega arith

-- so each of two sums has at most the degrees of both
pub greater_of_front : (first second : List BranchDegrees) → greater_degree first ≤ greater_degree (first ++ second)
greater_of_front first second = omega (arith, greater_of_both first second)

pub degree_of_front : (first second : List BranchDegrees) → constraint_degree_of None first ≤ constraint_degree_of None (first ++ second)
degree_of_front first second = omega (arith, denominator_of_both first second, greater_of_both first second)

pub degree_of_back : (first second : List BranchDegrees) → constraint_degree_of None second ≤ constraint_degree_of None (first ++ second)
degree_of_back first second = omega (arith, denominator_of_both first second, greater_of_both first second)

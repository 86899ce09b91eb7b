-- What solutions of equations can sum to, equation by equation.
use Rattle.std.proofs.Common.{◌≡◌, List, [], ◌∷◌, ◌++◌, refl, sym, ap, ◌∙◌}
use Rattle.std.specs.List.{AllZip}
use Rattle.list_laws.proofs.Zips.{AllZip-parts}
use Rattle.field.specs.Ring.{Ring, IsCommutativeRing}
use Rattle.field.specs.Sums.{sum_in}
use Rattle.lookup_model.proofs.SumLaws.{sum_in-append}
use Rattle.lookup_model.specs.internal.Equations.{CanSumTo, Equation, Solves}
use Rattle.list_laws.proofs.Zips.{AllZip-append}

module _ {K : Type 0} {S : Ring K} (laws : IsCommutativeRing S) where
  -- equations of two lists together sum to a sum of the one and a sum of the other
  pub sums_together : (xs ys : List (Equation K)) (a b : K) → CanSumTo S xs a → CanSumTo S ys b → CanSumTo S (xs ++ ys) (S.add a b)
  sums_together xs ys a b first second = record {
    fractions = first.fractions ++ second.fractions;
    solve = AllZip-append (Solves S) xs first.fractions ys second.fractions first.solve second.solve;
    sum = sum_in-append laws first.fractions second.fractions ∙ (λ i. S.add (first.sum i) (second.sum i));
  }

  -- and only to those
  pub sums_apart : (xs ys : List (Equation K)) (total : K) → CanSumTo S (xs ++ ys) total → (a : K) × (b : K) × CanSumTo S xs a × CanSumTo S ys b × (S.add a b ≡ total)
  sums_apart xs ys total both =
      let (us, vs, are, first, second) = AllZip-parts (Solves S) xs ys both.fractions both.solve in (
        sum_in S us,
        sum_in S vs,
        record { fractions = us; solve = first; sum = refl },
        record { fractions = vs; solve = second; sum = refl },
        sym (sum_in-append laws us vs) ∙ ap (sum_in S) are ∙ both.sum,
      )

  -- one equation sums to its solutions
  pub sum_of_one : (e : Equation K) (f : K) → Solves S e f → CanSumTo S (e ∷ []) f
  sum_of_one e f solves = record { fractions = f ∷ []; solve = (solves, tt); sum = laws.add_zero f }

  pub one_sums : (e : Equation K) (total : K) → CanSumTo S (e ∷ []) total → Solves S e total
  one_sums e total sums = from sums.fractions sums.solve sums.sum
    where
      from : (fs : List K) → AllZip (Solves S) (e ∷ []) fs → sum_in S fs ≡ total → Solves S e total
      from [] solve sum = absurd solve
      from (f ∷ []) solve sum = ap (S.mul e.denominator) (sym (sym (laws.add_zero f) ∙ sum)) ∙ solve.0
      from (f ∷ g ∷ fs) solve sum = absurd solve.1

  -- no equations sum to zero
  pub sum_of_none : CanSumTo S [] S.zero
  sum_of_none = record { fractions = []; solve = tt; sum = refl }

  pub none_sums : (total : K) → CanSumTo S [] total → S.zero ≡ total
  none_sums total sums = from sums.fractions sums.solve sums.sum
    where
      from : (fs : List K) → AllZip (Solves S) [] fs → sum_in S fs ≡ total → S.zero ≡ total
      from [] solve sum = sum
      from (f ∷ fs) solve sum = absurd solve

-- What solutions of equations can sum to, with one more equation or with further ones.
use Rattle.std.proofs.Common.{◌≡◌, ◌≢◌, ◌↔◌, List, [], ◌∷◌, ◌++◌, refl, sym, ap, ◌∙◌}
use Rattle.field.specs.Ring.{Ring, IsCommutativeRing, IsDomain, IsInverse, sub_in}
use Rattle.field.specs.laws.RingFacts.{domain_cancel, mul_zero, product_nonzero}
use Rattle.field.specs.laws.RingSolver.{var, con, ◌:+◌, ◌:-◌, ◌:*◌, ring_given, ring_law}
use Rattle.lookup_model.specs.internal.Equations.{CanSumTo, Equation, Solves}
use Rattle.lookup_model.proofs.Batches.SolutionSums.{none_sums, one_sums, sum_of_one, sums_apart, sums_together}
use Rattle.checker_batches.specs.declared.sums.Sums.TheVariants.{Nothing, One, Everything}
use Rattle.checker_batches.specs.internal.Sums.{AreSums}

module _ {K : Type 0} {S : Ring K} (laws : IsCommutativeRing S) where
  -- nothing stays nothing, whatever comes further
  pub nothing_stays : (equations further : List (Equation K)) → AreSums S equations Nothing → AreSums S (equations ++ further) Nothing
  nothing_stays equations further nothing total both =
      let (a, b, first, second, is) = sums_apart laws equations further total both in nothing a first

  -- an equation without a solution
  pub sums_blocked : (equations : List (Equation K)) (e : Equation K) → e.denominator ≡ S.zero → e.numerator ≢ S.zero → AreSums S (equations ++ e ∷ []) Nothing
  sums_blocked equations e none some total both =
      let (a, b, first, second, is) = sums_apart laws equations (e ∷ []) total both in
      some (sym (one_sums laws e b second) ∙ ap (λ d. S.mul d b) none ∙ ring_law laws (b ∷ []) (con 0 :* var 0) (con 0) refl)

  -- an equation that everything solves, where there is a sum
  pub sums_freed : (equations : List (Equation K)) (e : Equation K) (c : K) → e.denominator ≡ S.zero → e.numerator ≡ S.zero → CanSumTo S equations c → AreSums S (equations ++ e ∷ []) Everything
  sums_freed equations e c none nothing so_far total =
      let f = sub_in S total c in
      let both = sums_together laws equations (e ∷ []) c f so_far (sum_of_one laws e f (ap (λ d. S.mul d f) none ∙ ring_law laws (f ∷ []) (con 0 :* var 0) (con 0) refl ∙ sym nothing)) in
      record {
        fractions = both.fractions;
        solve = both.solve;
        sum = both.sum ∙ ring_law laws (c ∷ total ∷ []) (var 0 :+ (var 1 :- var 0)) (var 1) refl;
      }

  -- the rest of a sum
  rest_of : (t f : K) → S.add (sub_in S t f) f ≡ t
  rest_of t f = ring_law laws (t ∷ f ∷ []) ((var 0 :- var 1) :+ var 1) (var 0) refl

  -- whether zero is a sum
  pub zero_of_one : (equations : List (Equation K)) (n d : K) → AreSums S equations (One n d) → (n ≡ S.zero) ↔ CanSumTo S equations S.zero
  zero_of_one equations n d are = (
    (λ e. (are.1 S.zero).1 (mul_zero laws d ∙ sym e)),
    (λ sums. sym ((are.1 S.zero).0 sums) ∙ mul_zero laws d),
  )

  module _ (inverse : K → K) (inverts : (a : K) → a ≢ S.zero → IsInverse S a (inverse a)) where
    -- one sum is a sum
    pub some_sum : (equations : List (Equation K)) (n d : K) → AreSums S equations (One n d) → CanSumTo S equations (S.mul (inverse d) n)
    some_sum equations n d are =
        (are.1 (S.mul (inverse d) n)).1 (ring_given laws (d ∷ inverse d ∷ n ∷ []) ((var 2, var 0 :* var 1, con 1) ∷ []) (var 0 :* (var 1 :* var 2)) (var 2) (inverts d are.0, tt) refl)

    module _ (equations : List (Equation K)) (e : Equation K) (ne : e.denominator ≢ S.zero) where
      -- an equation with one solution
      the_solution : Solves S e (S.mul (inverse e.denominator) e.numerator)
      the_solution =
          ring_given laws (e.denominator ∷ inverse e.denominator ∷ e.numerator ∷ []) ((var 2, var 0 :* var 1, con 1) ∷ []) (var 0 :* (var 1 :* var 2)) (var 2) (inverts e.denominator ne, tt) refl

      -- with it each sum comes from one without it
      sum_with : (total : K) → CanSumTo S equations (sub_in S total (S.mul (inverse e.denominator) e.numerator)) → CanSumTo S (equations ++ e ∷ []) total
      sum_with total so_far =
          let f = S.mul (inverse e.denominator) e.numerator in
          let both = sums_together laws equations (e ∷ []) (sub_in S total f) f so_far (sum_of_one laws e f the_solution) in
          record { fractions = both.fractions; solve = both.solve; sum = both.sum ∙ rest_of total f }

      pub sums_all : AreSums S equations Everything → AreSums S (equations ++ e ∷ []) Everything
      sums_all so_far total = sum_with total (so_far (sub_in S total (S.mul (inverse e.denominator) e.numerator)))

      pub sums_moved : IsDomain S → (n d : K) → AreSums S equations (One n d) → AreSums S (equations ++ e ∷ []) (One (S.add (S.mul n e.denominator) (S.mul e.numerator d)) (S.mul d e.denominator))
      sums_moved domain n d so_far = (product_nonzero laws domain d e.denominator so_far.0 ne, λ total. (there total, back total))
        where
          there : (total : K) → CanSumTo S (equations ++ e ∷ []) total → S.mul (S.mul d e.denominator) total ≡ S.add (S.mul n e.denominator) (S.mul e.numerator d)
          there total both =
              let (a, b, first, second, is) = sums_apart laws equations (e ∷ []) total both in
              ap (S.mul (S.mul d e.denominator)) (sym is)
              ∙ ring_given laws (d ∷ e.denominator ∷ a ∷ b ∷ n ∷ e.numerator ∷ [])
              ((var 1, var 0 :* var 2, var 4) ∷ (var 0, var 1 :* var 3, var 5) ∷ [])
              ((var 0 :* var 1) :* (var 2 :+ var 3)) ((var 4 :* var 1) :+ (var 5 :* var 0)) ((so_far.1 a).0 first, (one_sums laws e b second, tt)) refl

          back : (total : K) → S.mul (S.mul d e.denominator) total ≡ S.add (S.mul n e.denominator) (S.mul e.numerator d) → CanSumTo S (equations ++ e ∷ []) total
          back total whole =
              let f = S.mul (inverse e.denominator) e.numerator in
              let c = sub_in S total f in
              let scaled : S.mul e.denominator (S.mul d c) ≡ S.mul e.denominator n =
              ring_given laws (d ∷ e.denominator ∷ total ∷ f ∷ n ∷ e.numerator ∷ [])
              ((con 1, (var 0 :* var 1) :* var 2, (var 4 :* var 1) :+ (var 5 :* var 0)) ∷ (var 0, var 5, var 1 :* var 3) ∷ [])
              (var 1 :* (var 0 :* (var 2 :- var 3))) (var 1 :* var 4) (whole, (sym the_solution, tt)) refl in
              sum_with total ((so_far.1 c).1 (domain_cancel laws domain e.denominator (S.mul d c) n ne scaled))

  -- before any equation
  pub no_sums : IsDomain S → (n d : K) → n ≡ S.zero → d ≡ S.one → AreSums S [] (One n d)
  no_sums domain n d n_is d_is = (
    (λ e. domain.zero_is_not_one (sym e ∙ d_is)),
    (λ total. (
      (λ sums. times total ∙ sym (none_sums laws total sums) ∙ sym n_is),
      (λ is. record { fractions = []; solve = tt; sum = sym (sym (times total) ∙ is ∙ n_is) }),
    )),
  )
    where
      times : (t : K) → S.mul d t ≡ t
      times t = ap (λ x. S.mul x t) d_is ∙ ring_law laws (t ∷ []) (con 1 :* var 0) (var 0) refl

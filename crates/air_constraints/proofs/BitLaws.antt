-- Bits: an element whose square is itself, and cells whose sum is a bit.
use Rattle.std.proofs.Common.{◌≡◌, inl, inr, ℕ, zero, suc, ◌<◌, ◌≤◌, List, [], ◌∷◌, length, map, get_or, refl, sym, ap, ap₂, subst, ◌∙◌, arith}
use Rattle.std.proofs.lemmas.Nat.Gcd.{le_of_dvd}
use Rattle.std.specs.Int.{◌∣◌}
use Rattle.std.specs.List.{AllByRecursion}
use Rattle.field.specs.Characteristic.{HasCharacteristic}
use Rattle.field.specs.Ring.{Ring, IsCommutativeRing, IsDomain, of_nat, sub_in}
use Rattle.field.specs.laws.RingFacts.{add_cancel, mul_zero, same_from_difference, zero_add, zero_mul}
use Rattle.field.specs.laws.RingSolver.{var, con, ◌:-◌, ◌:*◌, ring_given}
use Rattle.air_expressions.specs.Meaning.{variable_value}
use Rattle.air_expressions.specs.Window.{Window}
use Rattle.air_expressions.specs.declared.variable.SymbolicVariable.{SymbolicVariable}
use Rattle.air_constraints.specs.internal.Bits.{sum_of}
use Rattle.air_constraints.specs.Facts.{AreApart, AreApartFrom, IsBit}

module _ {F : Type 0} {R : Ring F} (laws : IsCommutativeRing R) (domain : IsDomain R) where
  -- an element whose square is itself is a bit
  pub bit_from_square : (a : F) → sub_in R (R.mul a a) a ≡ R.zero → IsBit R a
  bit_from_square a e =
      let x = var 0 in
      let factors : R.mul a (sub_in R a R.one) ≡ R.zero =
      ring_given laws (a ∷ []) ((con 1, x :* x :- x, con 0) ∷ []) (x :* (x :- con 1)) (con 0) (e, tt) refl in
      elim (domain.no_zero_divisors a (sub_in R a R.one) factors) [
        | inl z ↦ inl z
        | inr z ↦ inr (same_from_difference laws a R.one z)
      ]

  -- a number below the characteristic that is a bit as an element is at most one
  pub small_bit : (p m : ℕ) → HasCharacteristic R p → m < p → IsBit R (of_nat R m) → m ≤ 1
  unfolding of_nat
  small_bit p zero char lt bit = omega arith
  small_bit p (suc k) char lt (inl z) = absurd (omega (arith, lt, le_of_dvd {n = suc k} (omega arith) ((char (suc k)).0 z)))
  small_bit p (suc k) char lt (inr o) = by_number k lt ((char k).0 (add_cancel laws R.one (of_nat R k) R.zero (o ∙ sym (laws.add_zero R.one))))
    where
      by_number : (j : ℕ) → suc j < p → p ∣ j → suc j ≤ 1
      by_number zero lt divides = omega arith
      by_number (suc j) lt divides = absurd (omega (arith, lt, le_of_dvd {n = suc j} (omega arith) divides))

  -- one more if a bit is one
  abbrev pub one_more : {a : F} → IsBit R a → ℕ → ℕ
  one_more (inl z) n = n
  one_more (inr o) n = suc n

  module _ (w : Window F) where
    -- how many of cells that are bits are one
    abbrev pub count : (vs : List (SymbolicVariable F)) → AllByRecursion (λ v. IsBit R (variable_value R w v)) vs → ℕ
    count [] all = 0
    count (v ∷ vs) all = one_more all.0 (count vs all.1)

    -- their sum is as many ones
    pub sum_is_count : (vs : List (SymbolicVariable F)) (all : AllByRecursion (λ v. IsBit R (variable_value R w v)) vs) → sum_of R (map (variable_value R w) vs) ≡ of_nat R (count vs all)
    unfolding of_nat
    sum_is_count [] all = refl
    sum_is_count (v ∷ vs) all = by_bit all.0 (sum_is_count vs all.1)
      where
        by_bit : (b : IsBit R (variable_value R w v)) → sum_of R (map (variable_value R w) vs) ≡ of_nat R (count vs all.1)
            → R.add (variable_value R w v) (sum_of R (map (variable_value R w) vs)) ≡ of_nat R (one_more b (count vs all.1))
        by_bit (inl z) later = ap₂ R.add z later ∙ zero_add laws (of_nat R (count vs all.1))
        by_bit (inr o) later = ap₂ R.add o later

    -- at most as many are one as there are
    pub count_few : (vs : List (SymbolicVariable F)) (all : AllByRecursion (λ v. IsBit R (variable_value R w v)) vs) → count vs all ≤ length vs
    count_few [] all = omega arith
    count_few (v ∷ vs) all = by_bit all.0 (count_few vs all.1)
      where
        by_bit : (b : IsBit R (variable_value R w v)) → count vs all.1 ≤ length vs → one_more b (count vs all.1) ≤ suc (length vs)
        by_bit (inl z) few = omega (arith, few)
        by_bit (inr o) few = omega (arith, few)

    -- where none is one, all are zero
    pub none_set : (vs : List (SymbolicVariable F)) (all : AllByRecursion (λ v. IsBit R (variable_value R w v)) vs) → count vs all ≡ 0
        → (k : ℕ) (d : SymbolicVariable F) → k < length vs → variable_value R w (get_or vs k d) ≡ R.zero
    none_set [] all none k d lt = absurd (omega (arith, lt))
    none_set (v ∷ vs) all none zero d lt = by_bit all.0 none
      where
        by_bit : (b : IsBit R (variable_value R w v)) → one_more b (count vs all.1) ≡ 0 → variable_value R w v ≡ R.zero
        by_bit (inl z) none = z
        by_bit (inr o) none = absurd (omega (arith, none))
    none_set (v ∷ vs) all none (suc k) d lt = none_set vs all.1 (by_bit all.0 none) k d (omega (arith, lt))
      where
        by_bit : (b : IsBit R (variable_value R w v)) → one_more b (count vs all.1) ≡ 0 → count vs all.1 ≡ 0
        by_bit (inl z) none = none
        by_bit (inr o) none = absurd (omega (arith, none))

    -- where at most one is one, the product of any two is zero
    pub apart_from_count : (vs : List (SymbolicVariable F)) (all : AllByRecursion (λ v. IsBit R (variable_value R w v)) vs) → count vs all ≤ 1 → AreApart R w vs
    apart_from_count [] all few = tt
    apart_from_count (v ∷ vs) all few = (by_bit all.0 few, apart_from_count vs all.1 (fewer all.0 few))
      where
        by_bit : (b : IsBit R (variable_value R w v)) → one_more b (count vs all.1) ≤ 1 → AreApartFrom R w (variable_value R w v) vs
        by_bit (inl z) few = λ k d lt. ap (λ t. R.mul t (variable_value R w (get_or vs k d))) z ∙ zero_mul laws (variable_value R w (get_or vs k d))
        by_bit (inr o) few = λ k d lt. ap (R.mul (variable_value R w v)) (none_set vs all.1 (omega (arith, few)) k d lt) ∙ mul_zero laws (variable_value R w v)

        fewer : (b : IsBit R (variable_value R w v)) → one_more b (count vs all.1) ≤ 1 → count vs all.1 ≤ 1
        fewer (inl z) few = few
        fewer (inr o) few = omega (arith, few)

    -- fewer bits than the characteristic, with a sum that is a bit: the product of any two is zero
    pub apart_from_sum : (p : ℕ) (vs : List (SymbolicVariable F)) (s : F) → HasCharacteristic R p → length vs < p
        → AllByRecursion (λ v. IsBit R (variable_value R w v)) vs × (s ≡ sum_of R (map (variable_value R w) vs)) → IsBit R s → AreApart R w vs
    apart_from_sum p vs s char lt known bit =
        let few = count_few vs known.0 in
        let P : F → Type 0 = IsBit R in
        apart_from_count vs known.0 (small_bit p (count vs known.0) char (omega (arith, few, lt)) (subst P (known.1 ∙ sum_is_count vs known.0) bit))

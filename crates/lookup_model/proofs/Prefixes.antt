-- The prefixes of the buses, one after another, and the denominators over them.
use Rattle.std.proofs.Common.{◌≡◌, ℕ, ◌+◌, List, [], ◌∷◌, add-one, map, slice_index_or, refl, sym, ap, ◌∙◌, arith}
use Rattle.std.proofs.lemmas.List.FromFn.{get_or-map-range_with_len}
use Rattle.std.specs.List.{range_with_len}
use Rattle.field.specs.Polynomial.{combined}
use Rattle.field.specs.Ring.{Ring, IsCommutativeRing, of_nat, power, sub_in}
use Rattle.field.specs.laws.RingFacts.{add_mul, zero_mul}
use Rattle.field.specs.laws.RingSolver.{var, ◌:+◌, ◌:-◌, ring_law}
use Rattle.lookup_model.specs.Challenges.{prefix_of_bus}
use Rattle.lookup_model.specs.Points.{HasPoints}

module _ {K : Type 0} {S : Ring K} (laws : IsCommutativeRing S) where
  -- no step of g from a
  pub no_step : (a g : K) → a ≡ S.add a (S.mul (of_nat S 0) g)
  unfolding of_nat
  no_step a g = sym (laws.add_zero a) ∙ ap (S.add a) (sym (zero_mul laws g))

  -- one more step of g from a
  pub one_more_step : (a g : K) (n : ℕ) → S.add (S.add a (S.mul (of_nat S n) g)) g ≡ S.add a (S.mul (of_nat S (n + 1)) g)
  unfolding of_nat
  one_more_step a g n = rw add-one (laws.add_assoc a (S.mul (of_nat S n) g) g ∙ ap (S.add a) (laws.add_comm (S.mul (of_nat S n) g) g ∙ ap (λ t. S.add t (S.mul (of_nat S n) g)) (sym (laws.mul_comm S.one g ∙ laws.mul_one g)) ∙ sym (add_mul laws S.one (of_nat S n) g)))

  -- the denominators over these prefixes are alpha minus the points of their keys
  pub has_points : (width n : ℕ) (alpha beta : K) (prefixes : List K) → prefixes ≡ map (prefix_of_bus S alpha beta width) (range_with_len 0 n) → HasPoints S width alpha beta n (record { prefix = λ id. slice_index_or prefixes id alpha; beta = beta })
  has_points width n alpha beta prefixes are key lt =
      let offset = S.mul (of_nat S (key.id + 1)) (power S beta width) in
      let prefix_is : slice_index_or prefixes key.id alpha ≡ prefix_of_bus S alpha beta width key.id =
      ap (λ ps. slice_index_or ps key.id alpha) are ∙ get_or-map-range_with_len (prefix_of_bus S alpha beta width) 0 n key.id key.id alpha lt (omega arith) in
      ap (λ p. sub_in S p (combined S key.tuple beta)) prefix_is
      ∙ ring_law laws (alpha ∷ offset ∷ combined S key.tuple beta ∷ []) ((var 0 :+ var 1) :- var 2) (var 0 :- (var 2 :- var 1)) refl

-- The denominators of a tuple from its last element on: each one before it takes off its value times
-- the next power of beta.
use Rattle.std.proofs.Common.{◌≡◌, ℕ, suc, List, [], ◌∷◌, map, length, reverse, ap, sym, refl, ◌∙◌}
use Rattle.std.proofs.lemmas.Grind.{reverse_onto}
use Rattle.std.proofs.lemmas.List.{length-map, length-reverse}
use Rattle.std.specs.List.{zip}
use Rattle.field.specs.Polynomial.{value_at}
use Rattle.field.specs.Ring.{Ring, IsCommutativeRing, power, sub_in}
use Rattle.field.specs.laws.RingSolver.{var, con, ◌:+◌, ◌:-◌, ◌:*◌, ring_law}
use Rattle.air_expressions.specs.Window.{Window}
use Rattle.air_expressions.specs.declared.base_expression.SymbolicExpression.{SymbolicExpression}
use Rattle.lookup_model.proofs.Coefficients.{value_at-push}
use Rattle.lookup_model.specs.Sent.{value, values}
use Rattle.lookup_columns.specs.Columns.{tuple_denominator_at, tuple_denominators}
use Rattle.list_laws.proofs.Images.{map-map}
use Rattle.lookup_columns.proofs.ColumnLaws.{map_of_two}

module _ {F K : Type 0} (R : Ring F) {S : Ring K} (laws : IsCommutativeRing S) (embed : F → K) (alpha beta : K) where
  -- one more element in front of a tuple
  pub denominator_front : (w : Window F) (e : SymbolicExpression F) (es : List (SymbolicExpression F))
      → sub_in S (tuple_denominator_at R S embed alpha beta w es) (S.mul (power S beta (length es)) (embed (value R w e))) ≡ tuple_denominator_at R S embed alpha beta w (e ∷ es)
  denominator_front w e es =
      let ys = map embed (values R w es) in
      let y = embed (value R w e) in
      let many : length (reverse ys) ≡ length es = length-reverse ys ∙ length-map (values R w es) embed ∙ length-map es (value R w) in
      let p = power S beta (length es) in
      let v = value_at S (reverse ys) beta in
      ring_law laws (alpha ∷ v ∷ p ∷ y ∷ []) ((var 0 :- var 1) :- var 2 :* var 3) (var 0 :- (var 1 :+ var 2 :* var 3)) refl
      ∙ ap (λ n. sub_in S alpha (S.add v (S.mul (power S beta n) y))) (sym many)
      ∙ ap (sub_in S alpha) (sym (value_at-push laws (reverse ys) y beta))
      ∙ ap (λ cs. sub_in S alpha (value_at S cs beta)) (sym (reverse_onto ys y []))

  -- the last element alone
  denominator_of_last : (w : Window F) (e : SymbolicExpression F) → sub_in S alpha (embed (value R w e)) ≡ tuple_denominator_at R S embed alpha beta w (e ∷ [])
  denominator_of_last w e = ring_law laws (alpha ∷ beta ∷ embed (value R w e) ∷ []) (var 0 :- var 2) (var 0 :- (var 2 :+ var 1 :* con 0)) refl

  module _ (window : ℕ → Window F) (rows : List ℕ) where
    -- the same on some rows
    pub column_front : (e : SymbolicExpression F) (es : List (SymbolicExpression F)) {ds v : List K} {xs : List F}
        → ds ≡ tuple_denominators R S embed window alpha beta rows es → xs ≡ map (λ r. value R (window r) e) rows
        → v ≡ map (λ p. sub_in S p.0 (S.mul (power S beta (length es)) (embed p.1))) (zip ds xs)
        → v ≡ tuple_denominators R S embed window alpha beta rows (e ∷ es)
    column_front e es d x w =
        map_of_two (λ (d : K) (x : F). sub_in S d (S.mul (power S beta (length es)) (embed x))) _ _ rows d x w
        ∙ (λ i. map (λ r. denominator_front (window r) e es i) rows)

    -- no element at all
    pub column_of_none : {ds : List K} → ds ≡ map (λ _. alpha) rows → ds ≡ tuple_denominators R S embed window alpha beta rows []
    column_of_none d = d ∙ ap (λ a. map (λ _. a) rows) (ring_law laws (alpha ∷ []) (var 0) (var 0 :- con 0) refl)

    -- the last element alone
    pub column_of_last : (e : SymbolicExpression F) {v : List K} {xs : List F} → xs ≡ map (λ r. value R (window r) e) rows → v ≡ map (λ x. sub_in S alpha (embed x)) xs
        → v ≡ tuple_denominators R S embed window alpha beta rows (e ∷ [])
    column_of_last e x w =
        w ∙ ap (map (λ x. sub_in S alpha (embed x))) x ∙ map-map (λ x. sub_in S alpha (embed x)) (λ r. value R (window r) e) rows
        ∙ (λ i. map (λ r. denominator_of_last (window r) e i) rows)

  -- the next power of beta
  pub power_more : {p : K} (n : ℕ) → p ≡ power S beta n → S.mul p beta ≡ power S beta (suc n)
  unfolding power
  power_more n e = ap (λ q. S.mul q beta) e ∙ ring_law laws (power S beta n ∷ beta ∷ []) (var 0 :* var 1) (var 1 :* var 0) refl

-- the power 1 is the element itself
pub first_power : {K : Type 0} {S : Ring K} → IsCommutativeRing S → (x : K) → x ≡ power S x 1
unfolding power
first_power {S = S} laws x = sym (laws.mul_one x)

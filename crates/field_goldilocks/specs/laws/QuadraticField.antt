-- Polynomials modulo X^2 - w are a ring over every commutative ring. Over a field in which w is no
-- square, they are a field.
use Rattle.std.specs.Prelude.{◌≡◌, ◌≢◌, ◌⊎◌, ◌&&◌, ◌↔◌, Bool, true, false, IsTrue, ℕ, List, [], ◌∷◌, refl}
use Rattle.std.proofs.Common.{sym, ap, ◌∙◌, inl, inr}
use Rattle.field.specs.Ring.{Ring, IsCommutativeRing, IsDomain, IsEmbedding, IsInverse}
use Rattle.field.specs.Characteristic.{HasCharacteristic}
use Rattle.field_goldilocks.specs.Quadratic.{Quadratic, quadratic_ring, quadratic_embed, quadratic_inverse, quadratic_norm}
use Rattle.field.specs.laws.RingFacts.{zero_mul, mul_zero, same_from_difference, zero_from_product, embed-of_nat}
use Rattle.field.specs.laws.RingSolver.{Expr, var, con, :neg, ◌:+◌, ◌:-◌, ◌:*◌, ring_law, ring_given}

-- Polynomials with the same coefficients are the same.
pub quadratic_same : {A : Type 0} (a b : Quadratic A) → a.c0 ≡ b.c0 → a.c1 ≡ b.c1 → a ≡ b
quadratic_same a b e f = λ i. record { c0 = e i; c1 = f i }

-- If the conjunction of two tests passes, so does each of them.
both_pass : (x y : Bool) → (x && y) ≡ true → (x ≡ true) × (y ≡ true)
both_pass true y e = (refl, e)
both_pass false y e = absurd (cc e)

-- If two tests pass, so does their conjunction.
joined_pass : (x y : Bool) → x ≡ true → y ≡ true → (x && y) ≡ true
joined_pass true y e f = f
joined_pass false y e f = e

-- Where a test passes exactly for equal coefficients, the tests of both pass exactly for equal polynomials.
pub quadratic_equality : {A : Type 0} (test : A → A → Bool) → ((x y : A) → IsTrue (test x y) ↔ (x ≡ y)) → (a b : Quadratic A)
    → IsTrue (test a.c0 b.c0 && test a.c1 b.c1) ↔ (a ≡ b)
quadratic_equality test right a b = (
  λ e. let (first, second) = both_pass _ _ e in quadratic_same a b ((right a.c0 b.c0).0 first) ((right a.c1 b.c1).0 second),
  λ e. joined_pass _ _ ((right a.c0 b.c0).1 (ap (λ x. x.c0) e)) ((right a.c1 b.c1).1 (ap (λ x. x.c1) e)),
)

-- The expressions of the product, for the solver.
abbrev product : Expr → Quadratic Expr → Quadratic Expr → Quadratic Expr
product w a b = record { c0 = a.c0 :* b.c0 :+ w :* (a.c1 :* b.c1); c1 = a.c0 :* b.c1 :+ a.c1 :* b.c0 }

abbrev sum : Quadratic Expr → Quadratic Expr → Quadratic Expr
sum a b = record { c0 = a.c0 :+ b.c0; c1 = a.c1 :+ b.c1 }

abbrev unknown : ℕ → ℕ → Quadratic Expr
unknown k l = record { c0 = var k; c1 = var l }

module _ {A : Type 0} {R : Ring A} (laws : IsCommutativeRing R) (w : A) where
  -- the ring of this module
  abbrev Q : Ring (Quadratic A)
  Q = quadratic_ring R w

  -- Multiplication is associative.
  quadratic_mul_assoc : (a b c : Quadratic A) → Q.mul (Q.mul a b) c ≡ Q.mul a (Q.mul b c)
  quadratic_mul_assoc a b c =
      let env : List A = w ∷ a.c0 ∷ a.c1 ∷ b.c0 ∷ b.c1 ∷ c.c0 ∷ c.c1 ∷ [] in
      let left = product (var 0) (product (var 0) (unknown 1 2) (unknown 3 4)) (unknown 5 6) in
      let right = product (var 0) (unknown 1 2) (product (var 0) (unknown 3 4) (unknown 5 6)) in
      quadratic_same _ _ (ring_law laws env left.c0 right.c0 refl) (ring_law laws env left.c1 right.c1 refl)

  -- Multiplication is commutative.
  quadratic_mul_comm : (a b : Quadratic A) → Q.mul a b ≡ Q.mul b a
  quadratic_mul_comm a b =
      let env : List A = w ∷ a.c0 ∷ a.c1 ∷ b.c0 ∷ b.c1 ∷ [] in
      let left = product (var 0) (unknown 1 2) (unknown 3 4) in
      let right = product (var 0) (unknown 3 4) (unknown 1 2) in
      quadratic_same _ _ (ring_law laws env left.c0 right.c0 refl) (ring_law laws env left.c1 right.c1 refl)

  -- One is neutral.
  quadratic_mul_one : (a : Quadratic A) → Q.mul a Q.one ≡ a
  quadratic_mul_one a =
      let env : List A = w ∷ a.c0 ∷ a.c1 ∷ [] in
      let left = product (var 0) (unknown 1 2) (record { c0 = con 1; c1 = con 0 }) in
      quadratic_same _ _ (ring_law laws env left.c0 (var 1) refl) (ring_law laws env left.c1 (var 2) refl)

  -- Multiplication distributes over addition.
  quadratic_mul_add : (a b c : Quadratic A) → Q.mul a (Q.add b c) ≡ Q.add (Q.mul a b) (Q.mul a c)
  quadratic_mul_add a b c =
      let env : List A = w ∷ a.c0 ∷ a.c1 ∷ b.c0 ∷ b.c1 ∷ c.c0 ∷ c.c1 ∷ [] in
      let left = product (var 0) (unknown 1 2) (sum (unknown 3 4) (unknown 5 6)) in
      let right = sum (product (var 0) (unknown 1 2) (unknown 3 4)) (product (var 0) (unknown 1 2) (unknown 5 6)) in
      quadratic_same _ _ (ring_law laws env left.c0 right.c0 refl) (ring_law laws env left.c1 right.c1 refl)

  -- The polynomials modulo X^2 - w are a commutative ring.
  pub quadratic_lawful : IsCommutativeRing Q
  quadratic_lawful = record {
    add_assoc = λ a b c. quadratic_same _ _ (laws.add_assoc a.c0 b.c0 c.c0) (laws.add_assoc a.c1 b.c1 c.c1);
    add_comm = λ a b. quadratic_same _ _ (laws.add_comm a.c0 b.c0) (laws.add_comm a.c1 b.c1);
    add_zero = λ a. quadratic_same _ _ (laws.add_zero a.c0) (laws.add_zero a.c1);
    add_neg = λ a. quadratic_same _ _ (laws.add_neg a.c0) (laws.add_neg a.c1);
    mul_assoc = quadratic_mul_assoc;
    mul_comm = quadratic_mul_comm;
    mul_one = quadratic_mul_one;
    mul_add = quadratic_mul_add;
  }

  -- The coefficient ring embeds in it.
  pub quadratic_embeds : IsEmbedding R Q (quadratic_embed R)
  quadratic_embeds = record {
    zero = refl;
    one = refl;
    add = λ x y. quadratic_same _ _ refl (sym (laws.add_zero R.zero));
    mul = λ x y.
        let env : List A = w ∷ x ∷ y ∷ [] in
        let right = product (var 0) (record { c0 = var 1; c1 = con 0 }) (record { c0 = var 2; c1 = con 0 }) in
        quadratic_same _ _ (ring_law laws env (var 1 :* var 2) right.c0 refl) (ring_law laws env (con 0) right.c1 refl);
    injective = λ x y e. ap (λ a. a.c0) e;
  }

  -- Their characteristic is that of the coefficients.
  pub quadratic_characteristic : (p : ℕ) → HasCharacteristic R p → HasCharacteristic Q p
  quadratic_characteristic p characteristic n =
      let same = embed-of_nat quadratic_lawful quadratic_embeds n in
      (λ e. (characteristic n).0 (ap (λ a. a.c0) (same ∙ e)), λ d. sym same ∙ ap (quadratic_embed R) ((characteristic n).1 d))

  -- If the norm has an inverse, the polynomial has one.
  pub quadratic_inverse_is : (inverse : A → A) (a : Quadratic A) → IsInverse R (quadratic_norm R w a) (inverse (quadratic_norm R w a)) → IsInverse Q a (quadratic_inverse R w inverse a)
  quadratic_inverse_is inverse a e =
      let env : List A = w ∷ a.c0 ∷ a.c1 ∷ inverse (quadratic_norm R w a) ∷ [] in
      let x = unknown 1 2 in
      let left = product (var 0) x (record { c0 = var 3 :* var 1; c1 = :neg (var 3 :* var 2) }) in
      quadratic_same _ _ (ring_given laws env ((con 1, (var 1 :* var 1 :- var 0 :* (var 2 :* var 2)) :* var 3, con 1) ∷ []) left.c0 (con 1) (e, tt) refl)
      (ring_law laws env left.c1 (con 0) refl)

module _ {A : Type 0} {R : Ring A} (laws : IsCommutativeRing R) (domain : IsDomain R) (w : A) (no_square : (u v : A) → R.mul u u ≡ R.mul w (R.mul v v) → v ≡ R.zero) where
  -- Only zero has the norm zero.
  pub quadratic_norm_zero : (a : Quadratic A) → quadratic_norm R w a ≡ R.zero → a ≡ (quadratic_ring R w).zero
  quadratic_norm_zero a e =
      let squares = same_from_difference laws (R.mul a.c0 a.c0) (R.mul w (R.mul a.c1 a.c1)) e in
      let second = no_square a.c0 a.c1 squares in
      let first : R.mul a.c0 a.c0 ≡ R.zero = squares ∙ (ap (λ x. R.mul w (R.mul x a.c1)) second ∙ (ap (R.mul w) (zero_mul laws a.c1) ∙ mul_zero laws w)) in
      quadratic_same a _ (elim (domain.no_zero_divisors a.c0 a.c0 first) [ inl z ↦ z | inr z ↦ z ]) second

  -- Every nonzero polynomial has an inverse.
  pub quadratic_invertible : (inverse : A → A) → ((x : A) → x ≢ R.zero → IsInverse R x (inverse x)) → (a : Quadratic A) → a ≢ (quadratic_ring R w).zero → IsInverse (quadratic_ring R w) a (quadratic_inverse R w inverse a)
  quadratic_invertible inverse inverts a n =
      quadratic_inverse_is laws w inverse a (inverts (quadratic_norm R w a) (λ z. n (quadratic_norm_zero a z)))

  -- The polynomials are a domain.
  pub quadratic_domain : (inverse : A → A) → ((x : A) → x ≢ R.zero → IsInverse R x (inverse x)) → ((x : A) → (x ≡ R.zero) ⊎ (x ≢ R.zero)) → IsDomain (quadratic_ring R w)
  quadratic_domain inverse inverts decide = record {
    zero_is_not_one = λ e. domain.zero_is_not_one (ap (λ a. a.c0) e);
    no_zero_divisors = λ a b e. elim (decide (quadratic_norm R w a)) [
      | inl z ↦ inl (quadratic_norm_zero a z)
      | inr n ↦ inr (zero_from_product (quadratic_lawful laws w) a (quadratic_inverse R w inverse a) b (quadratic_inverse_is laws w inverse a (inverts _ n)) e)
    ];
  }

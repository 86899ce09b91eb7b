-- Polynomials modulo X^4 - w are a ring over every commutative ring. Over a field in which w is no
-- square and -1 is one, they are a field.
use Rattle.std.specs.Prelude.{◌≡◌, ◌≢◌, ◌⊎◌, ℕ, List, [], ◌∷◌, refl}
use Rattle.std.proofs.Common.{sym, ap, ◌∙◌, inl, inr}
use Rattle.field.specs.Ring.{Ring, IsCommutativeRing, IsDomain, IsEmbedding, IsInverse, sub_in}
use Rattle.field.specs.Characteristic.{HasCharacteristic}
use Rattle.field_monty.specs.Quartic.{Quartic, quartic_ring, quartic_embed, quartic_inverse, quartic_norm, norm_low, norm_high}
use Rattle.field_monty.specs.laws.Quartic.{quartic_same}
use Rattle.field.specs.laws.RingFacts.{zero_mul, mul_zero, same_from_difference, zero_from_product, embed-of_nat}
use Rattle.field.specs.laws.RingSolver.{Expr, var, con, :neg, ◌:+◌, ◌:-◌, ◌:*◌, ring_law, ring_given}

-- The expressions of the operations, for the solver.
abbrev sum : Quartic Expr → Quartic Expr → Quartic Expr
sum a b = record { c0 = a.c0 :+ b.c0; c1 = a.c1 :+ b.c1; c2 = a.c2 :+ b.c2; c3 = a.c3 :+ b.c3 }

abbrev product : Expr → Quartic Expr → Quartic Expr → Quartic Expr
product w a b = record {
  c0 = a.c0 :* b.c0 :+ w :* (a.c1 :* b.c3 :+ (a.c2 :* b.c2 :+ a.c3 :* b.c1));
  c1 = a.c0 :* b.c1 :+ a.c1 :* b.c0 :+ w :* (a.c2 :* b.c3 :+ a.c3 :* b.c2);
  c2 = a.c0 :* b.c2 :+ (a.c1 :* b.c1 :+ a.c2 :* b.c0) :+ w :* (a.c3 :* b.c3);
  c3 = a.c0 :* b.c3 :+ a.c1 :* b.c2 :+ (a.c2 :* b.c1 :+ a.c3 :* b.c0);
}

abbrev low_of : Expr → Quartic Expr → Expr
low_of w a = a.c0 :* a.c0 :+ w :* (a.c2 :* a.c2) :- w :* (a.c1 :* a.c3 :+ a.c1 :* a.c3)

abbrev high_of : Expr → Quartic Expr → Expr
high_of w a = a.c0 :* a.c2 :+ a.c0 :* a.c2 :- (a.c1 :* a.c1 :+ w :* (a.c3 :* a.c3))

abbrev norm_of : Expr → Quartic Expr → Expr
norm_of w a = low_of w a :* low_of w a :- w :* (high_of w a :* high_of w a)

abbrev inverse_of : Expr → Quartic Expr → Expr → Quartic Expr
inverse_of w a d =
    let u = low_of w a in
    let v = high_of w a in
    record {
      c0 = d :* (a.c0 :* u :- w :* (a.c2 :* v));
      c1 = d :* (w :* (a.c3 :* v) :- a.c1 :* u);
      c2 = d :* (a.c2 :* u :- a.c0 :* v);
      c3 = d :* (a.c1 :* v :- a.c3 :* u);
    }

-- four variables in a row
abbrev unknown : ℕ → ℕ → ℕ → ℕ → Quartic Expr
unknown k l m n = record { c0 = var k; c1 = var l; c2 = var m; c3 = var n }

module _ {A : Type 0} {R : Ring A} (laws : IsCommutativeRing R) (w : A) where
  -- the ring of this module
  abbrev Q : Ring (Quartic A)
  Q = quartic_ring R w

  -- Multiplication is associative.
  quartic_mul_assoc : (a b c : Quartic A) → Q.mul (Q.mul a b) c ≡ Q.mul a (Q.mul b c)
  quartic_mul_assoc a b c =
      let env : List A = w ∷ a.c0 ∷ a.c1 ∷ a.c2 ∷ a.c3 ∷ b.c0 ∷ b.c1 ∷ b.c2 ∷ b.c3 ∷ c.c0 ∷ c.c1 ∷ c.c2 ∷ c.c3 ∷ [] in
      let x = unknown 1 2 3 4 in
      let y = unknown 5 6 7 8 in
      let z = unknown 9 10 11 12 in
      let left = product (var 0) (product (var 0) x y) z in
      let right = product (var 0) x (product (var 0) y z) in
      quartic_same _ _ (ring_law laws env left.c0 right.c0 refl) (ring_law laws env left.c1 right.c1 refl)
      (ring_law laws env left.c2 right.c2 refl) (ring_law laws env left.c3 right.c3 refl)

  -- Multiplication is commutative.
  quartic_mul_comm : (a b : Quartic A) → Q.mul a b ≡ Q.mul b a
  quartic_mul_comm a b =
      let env : List A = w ∷ a.c0 ∷ a.c1 ∷ a.c2 ∷ a.c3 ∷ b.c0 ∷ b.c1 ∷ b.c2 ∷ b.c3 ∷ [] in
      let left = product (var 0) (unknown 1 2 3 4) (unknown 5 6 7 8) in
      let right = product (var 0) (unknown 5 6 7 8) (unknown 1 2 3 4) in
      quartic_same _ _ (ring_law laws env left.c0 right.c0 refl) (ring_law laws env left.c1 right.c1 refl)
      (ring_law laws env left.c2 right.c2 refl) (ring_law laws env left.c3 right.c3 refl)

  -- One is neutral.
  quartic_mul_one : (a : Quartic A) → Q.mul a Q.one ≡ a
  quartic_mul_one a =
      let env : List A = w ∷ a.c0 ∷ a.c1 ∷ a.c2 ∷ a.c3 ∷ [] in
      let left = product (var 0) (unknown 1 2 3 4) (record { c0 = con 1; c1 = con 0; c2 = con 0; c3 = con 0 }) in
      quartic_same _ _ (ring_law laws env left.c0 (var 1) refl) (ring_law laws env left.c1 (var 2) refl)
      (ring_law laws env left.c2 (var 3) refl) (ring_law laws env left.c3 (var 4) refl)

  -- Multiplication distributes over addition.
  quartic_mul_add : (a b c : Quartic A) → Q.mul a (Q.add b c) ≡ Q.add (Q.mul a b) (Q.mul a c)
  quartic_mul_add a b c =
      let env : List A = w ∷ a.c0 ∷ a.c1 ∷ a.c2 ∷ a.c3 ∷ b.c0 ∷ b.c1 ∷ b.c2 ∷ b.c3 ∷ c.c0 ∷ c.c1 ∷ c.c2 ∷ c.c3 ∷ [] in
      let x = unknown 1 2 3 4 in
      let y = unknown 5 6 7 8 in
      let z = unknown 9 10 11 12 in
      let left = product (var 0) x (sum y z) in
      let right = sum (product (var 0) x y) (product (var 0) x z) in
      quartic_same _ _ (ring_law laws env left.c0 right.c0 refl) (ring_law laws env left.c1 right.c1 refl)
      (ring_law laws env left.c2 right.c2 refl) (ring_law laws env left.c3 right.c3 refl)

  -- The polynomials modulo X^4 - w are a commutative ring.
  pub quartic_lawful : IsCommutativeRing Q
  quartic_lawful = record {
    add_assoc = λ a b c. quartic_same _ _ (laws.add_assoc a.c0 b.c0 c.c0) (laws.add_assoc a.c1 b.c1 c.c1) (laws.add_assoc a.c2 b.c2 c.c2) (laws.add_assoc a.c3 b.c3 c.c3);
    add_comm = λ a b. quartic_same _ _ (laws.add_comm a.c0 b.c0) (laws.add_comm a.c1 b.c1) (laws.add_comm a.c2 b.c2) (laws.add_comm a.c3 b.c3);
    add_zero = λ a. quartic_same _ _ (laws.add_zero a.c0) (laws.add_zero a.c1) (laws.add_zero a.c2) (laws.add_zero a.c3);
    add_neg = λ a. quartic_same _ _ (laws.add_neg a.c0) (laws.add_neg a.c1) (laws.add_neg a.c2) (laws.add_neg a.c3);
    mul_assoc = quartic_mul_assoc;
    mul_comm = quartic_mul_comm;
    mul_one = quartic_mul_one;
    mul_add = quartic_mul_add;
  }

  -- The coefficient ring embeds in it.
  pub quartic_embeds : IsEmbedding R Q (quartic_embed R)
  quartic_embeds = record {
    zero = refl;
    one = refl;
    add = λ x y. let none = sym (laws.add_zero R.zero) in quartic_same _ _ refl none none none;
    mul = λ x y.
        let env : List A = w ∷ x ∷ y ∷ [] in
        let constant : Expr → Quartic Expr = λ c. record { c0 = c; c1 = con 0; c2 = con 0; c3 = con 0 } in
        let right = product (var 0) (constant (var 1)) (constant (var 2)) in
        quartic_same _ _ (ring_law laws env (var 1 :* var 2) right.c0 refl) (ring_law laws env (con 0) right.c1 refl)
        (ring_law laws env (con 0) right.c2 refl) (ring_law laws env (con 0) right.c3 refl);
    injective = λ x y e. ap (λ a. a.c0) e;
  }

  -- Their characteristic is that of the coefficients.
  pub quartic_characteristic : (p : ℕ) → HasCharacteristic R p → HasCharacteristic Q p
  quartic_characteristic p characteristic n =
      let same = embed-of_nat quartic_lawful quartic_embeds n in
      (λ e. (characteristic n).0 (ap (λ a. a.c0) (same ∙ e)), λ d. sym same ∙ ap (quartic_embed R) ((characteristic n).1 d))

  -- If the norm has an inverse, the polynomial has one.
  pub quartic_inverse_is : (inverse : A → A) (a : Quartic A) → IsInverse R (quartic_norm R w a) (inverse (quartic_norm R w a)) → IsInverse Q a (quartic_inverse R w inverse a)
  quartic_inverse_is inverse a e =
      let env : List A = w ∷ a.c0 ∷ a.c1 ∷ a.c2 ∷ a.c3 ∷ inverse (quartic_norm R w a) ∷ [] in
      let x = unknown 1 2 3 4 in
      let left = product (var 0) x (inverse_of (var 0) x (var 5)) in
      quartic_same _ _ (ring_given laws env ((con 1, norm_of (var 0) x :* var 5, con 1) ∷ []) left.c0 (con 1) (e, tt) refl)
      (ring_law laws env left.c1 (con 0) refl) (ring_law laws env left.c2 (con 0) refl) (ring_law laws env left.c3 (con 0) refl)

-- what a field must satisfy for the polynomials modulo X^4 - w to be a field
pub record HasNoSquareRoot {A : Type 0} (R : Ring A) (w i : A) : Type 0 where
  pub no_square : (u v : A) → R.mul u u ≡ R.mul w (R.mul v v) → v ≡ R.zero
  pub minus_one : R.mul i i ≡ R.neg R.one

module _ {A : Type 0} {R : Ring A} (laws : IsCommutativeRing R) (domain : IsDomain R) (w i : A) (roots : HasNoSquareRoot R w i) where
  -- If a square is zero, so is the element.
  zero_from_square : (u : A) → R.mul u u ≡ R.zero → u ≡ R.zero
  zero_from_square u e = elim (domain.no_zero_divisors u u e) [ inl z ↦ z | inr z ↦ z ]

  -- A difference u^2 - w v^2 is zero only if u and v are.
  both_zero : (u v : A) → sub_in R (R.mul u u) (R.mul w (R.mul v v)) ≡ R.zero → (u ≡ R.zero) × (v ≡ R.zero)
  both_zero u v e =
      let squares = same_from_difference laws (R.mul u u) (R.mul w (R.mul v v)) e in
      let second = roots.no_square u v squares in
      (zero_from_square u (squares ∙ (ap (λ x. R.mul w (R.mul x v)) second ∙ (ap (R.mul w) (zero_mul laws v) ∙ mul_zero laws w))), second)

  -- Only zero has the norm zero.
  pub norm_zero : (a : Quartic A) → quartic_norm R w a ≡ R.zero → a ≡ (quartic_ring R w).zero
  norm_zero a e =
      let (low, high) = both_zero (norm_low R w a) (norm_high R w a) e in
      let env : List A = w ∷ a.c0 ∷ a.c1 ∷ a.c2 ∷ a.c3 ∷ i ∷ [] in
      let W = var 0 in
      let x = unknown 1 2 3 4 in
      let I = var 5 in
      let s = x.c0 :* x.c0 :- W :* (x.c2 :* x.c2) in
      let m = x.c1 :* x.c1 :- W :* (x.c3 :* x.c3) in
      let cross = W :* (x.c1 :* x.c3) in
      let outer = x.c1 :* x.c1 :+ W :* (x.c3 :* x.c3) in
      let squares = ring_given laws env
      ((low_of W x :+ (cross :+ cross :+ (cross :+ cross)), low_of W x, con 0)
      ∷ (:neg (W :* (high_of W x :+ (outer :+ outer))), high_of W x, con 0)
      ∷ (:neg (W :* (m :* m)), I :* I, :neg (con 1)) ∷ [])
      (s :* s :- W :* ((I :* m) :* (I :* m))) (con 0) (low, (high, (roots.minus_one, tt))) refl in
      let (first, turned) = both_zero (sub_in R (R.mul a.c0 a.c0) (R.mul w (R.mul a.c2 a.c2))) (R.mul i (sub_in R (R.mul a.c1 a.c1) (R.mul w (R.mul a.c3 a.c3)))) squares in
      let second = ring_given laws env ((:neg I, I :* m, con 0) ∷ (m, I :* I, :neg (con 1)) ∷ []) m (con 0) (turned, (roots.minus_one, tt)) refl in
      let (even, even_high) = both_zero a.c0 a.c2 first in
      let (odd, odd_high) = both_zero a.c1 a.c3 second in
      quartic_same a _ even odd even_high odd_high

  -- Every nonzero polynomial has an inverse.
  pub quartic_invertible : (inverse : A → A) → ((x : A) → x ≢ R.zero → IsInverse R x (inverse x)) → (a : Quartic A) → a ≢ (quartic_ring R w).zero → IsInverse (quartic_ring R w) a (quartic_inverse R w inverse a)
  quartic_invertible inverse inverts a n =
      quartic_inverse_is laws w inverse a (inverts (quartic_norm R w a) (λ z. n (norm_zero a z)))

  -- The polynomials are a domain.
  pub quartic_domain : (inverse : A → A) → ((x : A) → x ≢ R.zero → IsInverse R x (inverse x)) → ((x : A) → (x ≡ R.zero) ⊎ (x ≢ R.zero)) → IsDomain (quartic_ring R w)
  quartic_domain inverse inverts decide = record {
    zero_is_not_one = λ e. domain.zero_is_not_one (ap (λ a. a.c0) e);
    no_zero_divisors = λ a b e. elim (decide (quartic_norm R w a)) [
      | inl z ↦ inl (norm_zero a z)
      | inr n ↦ inr (zero_from_product (quartic_lawful laws w) a (quartic_inverse R w inverse a) b (quartic_inverse_is laws w inverse a (inverts _ n)) e)
    ];
  }

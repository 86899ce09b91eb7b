-- When polynomials modulo X^4 - w are equal.
use Rattle.std.specs.Prelude.{◌≡◌, ◌&&◌, ◌↔◌, Bool, true, false, IsTrue, refl}
use Rattle.std.proofs.Common.{ap}
use Rattle.field_monty.specs.Quartic.{Quartic}

-- Polynomials with the same coefficients are the same.
pub quartic_same : {A : Type 0} (a b : Quartic A) → a.c0 ≡ b.c0 → a.c1 ≡ b.c1 → a.c2 ≡ b.c2 → a.c3 ≡ b.c3 → a ≡ b
quartic_same a b e f g h = λ i. record { c0 = e i; c1 = f i; c2 = g i; c3 = h i }

-- If the conjunction of two tests passes, so does each of them.
both_pass : (x y : Bool) → (x && y) ≡ true → (x ≡ true) × (y ≡ true)
both_pass true y e = (refl, e)
both_pass false y e = absurd (cc e)

-- If two tests pass, so does their conjunction.
joined_pass : (x y : Bool) → x ≡ true → y ≡ true → (x && y) ≡ true
joined_pass true y e f = f
joined_pass false y e f = e

-- Where a test passes exactly for equal coefficients, the tests of all four pass exactly for equal polynomials.
pub quartic_equality : {A : Type 0} (test : A → A → Bool) → ((x y : A) → IsTrue (test x y) ↔ (x ≡ y)) → (a b : Quartic A)
    → IsTrue (test a.c0 b.c0 && (test a.c1 b.c1 && (test a.c2 b.c2 && test a.c3 b.c3))) ↔ (a ≡ b)
quartic_equality test right a b = (
  λ e.
      let (first, rest) = both_pass _ _ e in
      let (second, others) = both_pass _ _ rest in
      let (third, fourth) = both_pass _ _ others in
      quartic_same a b ((right a.c0 b.c0).0 first) ((right a.c1 b.c1).0 second) ((right a.c2 b.c2).0 third) ((right a.c3 b.c3).0 fourth),
  λ e.
      joined_pass _ _ ((right a.c0 b.c0).1 (ap (λ x. x.c0) e))
      (joined_pass _ _ ((right a.c1 b.c1).1 (ap (λ x. x.c1) e))
      (joined_pass _ _ ((right a.c2 b.c2).1 (ap (λ x. x.c2) e)) ((right a.c3 b.c3).1 (ap (λ x. x.c3) e)))),
)

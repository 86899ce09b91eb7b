-- How the stored form of an element of a field in Montgomery's form follows its operations.
use Rattle.std.proofs.Common.{inl, inr, ◌≡◌, ℕ, ◌+◌, ◌-◌, ◌*◌, ◌/◌, ◌%◌, ◌<◌, ◌≤◌, [], ◌∷◌, refl, sym, ap, ap₂, ◌∙◌, arith}
use Rattle.std.proofs.lemmas.Nat.{mul-le, mul-mod_first, mul-mod_second}
use Rattle.std.proofs.lemmas.Bool.{cases_lt}
use native.Mathlib.Nat.{mod-eq_of_lt, add-mul-mod_self_right}
use Rattle.field_monty.specs.Montgomery.{from_stored as element_stored, IsMontgomery}
use Rattle.field.specs.Residue.{Residue, residue_of, residue_same}
use Rattle.field.specs.ResidueRing.{residue_ring}
use Rattle.field.specs.laws.ResidueRing.{residue_ring_lawful, residue_of_add, residue_of_mul}
use Rattle.field.specs.Ring.{Ring, IsCommutativeRing, sub_in}
use Rattle.field.specs.laws.RingSolver.{var, con, :neg, ◌:+◌, ◌:-◌, ◌:*◌, ring_given}

module _ {p modulus_inverse radix_squared one i : ℕ} (positive : 0 < p) (facts : IsMontgomery p modulus_inverse radix_squared one i) where
  -- the ring of this module, the residue of a number, and the element that is stored as a number
  abbrev R : Ring (Residue p)
  R = residue_ring p positive

  abbrev residue : ℕ → Residue p
  residue = residue_of p positive

  abbrev from_stored : ℕ → Residue p
  from_stored = element_stored p i positive

  -- The ring's laws.
  laws : IsCommutativeRing R
  laws = residue_ring_lawful p positive

  -- 2^32 and its inverse.
  abbrev radix : Residue p
  radix = residue 4294967296

  abbrev radix_inverse : Residue p
  radix_inverse = residue i

  -- Their product is one.
  radix-inverse : R.mul radix radix_inverse ≡ R.one
  radix-inverse =
      let turned : 4294967296 * i ≡ i * 4294967296 = omega arith in
      residue_of_mul p positive 4294967296 i ∙ residue_same _ _ (ap (λ x. x % p) turned ∙ facts.radix_inverts)

  -- The element that is stored as n is n times the inverse of 2^32.
  pub from_stored_is : (n : ℕ) → from_stored n ≡ R.mul (residue n) radix_inverse
  from_stored_is n = sym (residue_of_mul p positive n i)

  -- Numbers of one residue are stored forms of one element.
  from_stored_same : (m n : ℕ) → residue m ≡ residue n → from_stored m ≡ from_stored n
  from_stored_same m n e =
      from_stored_is m ∙ (ap (λ r. R.mul r radix_inverse) e ∙ sym (from_stored_is n))

  -- Numbers that differ by multiples of the modulus have one residue.
  pub same_residue : (m n j k : ℕ) → m + j * p ≡ n + k * p → residue m ≡ residue n
  same_residue m n j k e =
      residue_same _ _ (sym (add-mul-mod_self_right m j p) ∙ (ap (λ x. x % p) e ∙ add-mul-mod_self_right n k p))

  -- A number times 2^32 is a stored form of its residue.
  unstored : (n : ℕ) → from_stored (n * 4294967296) ≡ residue n
  unstored n =
      let a = var 0 in
      let r = var 1 in
      let i = var 2 in
      from_stored_is (n * 4294967296)
      ∙ (ap (λ x. R.mul x radix_inverse) (sym (residue_of_mul p positive n 4294967296))
      ∙ ring_given laws (residue n ∷ radix ∷ radix_inverse ∷ []) ((a, r :* i, con 1) ∷ []) (a :* r :* i) a (radix-inverse, tt) refl)

  -- What times 2^32 is x, up to multiples of the modulus, has the residue that is stored as x.
  reduced : (x r q k : ℕ) → r * 4294967296 + q * p ≡ x + k * p → residue r ≡ from_stored x
  reduced x r q k e = sym (unstored r) ∙ from_stored_same (r * 4294967296) x (same_residue (r * 4294967296) x q k e)

  -- The multiple of the modulus that Montgomery's reduction takes has the low half of what it reduces.
  same_low : (l : ℕ) → l < 4294967296 → l * modulus_inverse % 4294967296 * p % 4294967296 ≡ l
  same_low l below =
      let grouped : l * modulus_inverse * p ≡ l * (modulus_inverse * p) = omega arith in
      let whole : l * 1 ≡ l = omega arith in
      mul-mod_first (l * modulus_inverse) p 4294967296
      ∙ (ap (λ x. x % 4294967296) grouped
      ∙ (sym (mul-mod_second l (modulus_inverse * p) 4294967296)
      ∙ (ap (λ x. l * x % 4294967296) facts.modulus_inverts ∙ (ap (λ x. x % 4294967296) whole ∙ mod-eq_of_lt below))))

  -- Montgomery's reduction of two halves, where r is the difference modulo the modulus.
  pub reduced_halves : (high low q r : ℕ) → low < 4294967296 → q ≡ low * modulus_inverse % 4294967296
      → (high < q * p / 4294967296 → r ≡ high + p - q * p / 4294967296)
      → (q * p / 4294967296 ≤ high → r ≡ high - q * p / 4294967296)
      → residue r ≡ from_stored (high * 4294967296 + low)
  reduced_halves high low q r half e borrowing plain =
      let word : q < 4294967296 = omega arith in
      let fits : q * p / 4294967296 ≤ high + p = omega (arith, mul-le q p 4294967296 p (omega arith) (omega arith)) in
      let same : q * p % 4294967296 ≡ low = rw e (same_low low half) in
      elim (cases_lt high (q * p / 4294967296)) [
        | inl h ↦ (let given = borrowing h in reduced (high * 4294967296 + low) r q 4294967296 (omega arith))
        | inr h ↦ (let given = plain h in reduced (high * 4294967296 + low) r q 0 (omega arith))
      ]

  -- A number below twice the modulus, less the modulus if that leaves a number.
  pub once_reduced : (x r : ℕ) → (x < p → r ≡ x) → (p ≤ x → r ≡ x - p) → residue r ≡ residue x
  once_reduced x r kept lowered =
      elim (cases_lt x p) [
        | inl h ↦ ap residue (kept h)
        | inr h ↦ (let given = lowered h in same_residue r x 1 0 (omega arith))
      ]

  -- The high half may be reduced first.
  pub high_reduced : (x h : ℕ) → (x / 4294967296 < p → h ≡ x / 4294967296) → (p ≤ x / 4294967296 → h ≡ x / 4294967296 - p)
      → from_stored (h * 4294967296 + x % 4294967296) ≡ from_stored x
  high_reduced x h kept lowered =
      elim (cases_lt (x / 4294967296) p) [
        | inl below ↦ (let given = kept below in from_stored_same _ x (same_residue _ x 0 0 (omega arith)))
        | inr above ↦ (let given = lowered above in from_stored_same _ x (same_residue _ x 4294967296 0 (omega arith)))
      ]

  -- The stored form of a sum.
  pub add_stored : (m n r : ℕ) → residue r ≡ residue (m + n) → from_stored r ≡ R.add (from_stored m) (from_stored n)
  add_stored m n r e =
      let sum = var 0 in
      let a = var 1 in
      let b = var 2 in
      let i = var 6 in
      ring_given laws (from_stored r ∷ from_stored m ∷ from_stored n ∷ residue r ∷ residue m ∷ residue n ∷ radix_inverse ∷ [])
      ((con 1, sum, var 3 :* i) ∷ (:neg (con 1), a, var 4 :* i) ∷ (:neg (con 1), b, var 5 :* i) ∷ (i, var 3, var 4 :+ var 5) ∷ [])
      sum (a :+ b)
      (from_stored_is r, (from_stored_is m, (from_stored_is n, (e ∙ sym (residue_of_add p positive m n), tt)))) refl

  -- The residue of a difference, where the modulus was added so that it is a number.
  difference_of : (m n x : ℕ) → x + n ≡ m + p → residue x ≡ sub_in R (residue m) (residue n)
  difference_of m n x e =
      ring_given laws (residue x ∷ residue n ∷ residue m ∷ []) ((con 1, var 0 :+ var 1, var 2) ∷ []) (var 0) (var 2 :- var 1)
      (residue_of_add p positive x n ∙ same_residue (x + n) m 0 1 (omega arith), tt) refl

  -- The residue of a difference that may borrow.
  pub difference_residue : (m n r : ℕ) → n ≤ p → (m < n → r ≡ m + p - n) → (n ≤ m → r ≡ m - n) → residue r ≡ residue (m + p - n)
  difference_residue m n r fits borrowing plain =
      elim (cases_lt m n) [
        | inl h ↦ ap residue (borrowing h)
        | inr h ↦ (let given = plain h in same_residue r _ 1 0 (omega arith))
      ]

  -- The stored form of a difference.
  pub sub_stored : (m n r : ℕ) → n ≤ p → residue r ≡ residue (m + p - n) → from_stored r ≡ sub_in R (from_stored m) (from_stored n)
  sub_stored m n r fits e =
      let difference = var 0 in
      let a = var 1 in
      let b = var 2 in
      let i = var 6 in
      ring_given laws (from_stored r ∷ from_stored m ∷ from_stored n ∷ residue r ∷ residue m ∷ residue n ∷ radix_inverse ∷ [])
      ((con 1, difference, var 3 :* i) ∷ (:neg (con 1), a, var 4 :* i) ∷ (con 1, b, var 5 :* i) ∷ (i, var 3, var 4 :- var 5) ∷ [])
      difference (a :- b)
      (from_stored_is r, (from_stored_is m, (from_stored_is n, (e ∙ difference_of m n (m + p - n) (omega arith), tt)))) refl

  -- The stored form of a negative.
  pub neg_stored : (n r : ℕ) → n ≤ p → residue r ≡ residue (p - n) → from_stored r ≡ R.neg (from_stored n)
  neg_stored n r fits e =
      ring_given laws (from_stored r ∷ from_stored n ∷ residue r ∷ residue n ∷ radix_inverse ∷ [])
      ((con 1, var 0, var 2 :* var 4) ∷ (con 1, var 1, var 3 :* var 4) ∷ (var 4, var 2, con 0 :- var 3) ∷ [])
      (var 0) (:neg (var 1))
      (from_stored_is r, (from_stored_is n, (e ∙ difference_of 0 n (p - n) (omega arith), tt))) refl

  -- The product of stored forms is the stored form of 2^32 times the product.
  pub product_stored : (m n : ℕ) → from_stored (m * n) ≡ R.mul radix (R.mul (from_stored m) (from_stored n))
  product_stored m n =
      let whole = var 0 in
      let a = var 1 in
      let b = var 2 in
      let x = var 3 in
      let y = var 4 in
      let i = var 5 in
      let r = var 6 in
      ring_given laws (from_stored (m * n) ∷ from_stored m ∷ from_stored n ∷ residue m ∷ residue n ∷ radix_inverse ∷ radix ∷ [])
      ((con 1, whole, x :* y :* i) ∷ (:neg (r :* b), a, x :* i) ∷ (:neg (r :* x :* i), b, y :* i) ∷ (:neg (x :* y :* i), r :* i, con 1) ∷ [])
      whole (r :* (a :* b)) (
        from_stored_is (m * n) ∙ ap (λ z. R.mul z radix_inverse) (sym (residue_of_mul p positive m n)),
        (from_stored_is m, (from_stored_is n, (radix-inverse, tt))),
      ) refl

  -- What is reduced from 2^32 times an element is the stored form of the element.
  pub reduced_stored : (x r : ℕ) (a : Residue p) → residue r ≡ from_stored x → from_stored x ≡ R.mul radix a → from_stored r ≡ a
  reduced_stored x r a e f =
      ring_given laws (from_stored r ∷ a ∷ residue r ∷ radix_inverse ∷ radix ∷ [])
      ((con 1, var 0, var 2 :* var 3) ∷ (var 3, var 2, var 4 :* var 1) ∷ (var 1, var 4 :* var 3, con 1) ∷ [])
      (var 0) (var 1) (from_stored_is r, (e ∙ f, (radix-inverse, tt))) refl

  -- The sum of four products, reduced once.
  pub four_products : (m n k l r : ℕ) (a b c d : Residue p) → residue r ≡ from_stored ((m + n) + (k + l))
      → from_stored m ≡ R.mul radix a → from_stored n ≡ R.mul radix b → from_stored k ≡ R.mul radix c → from_stored l ≡ R.mul radix d
      → from_stored r ≡ R.add (R.add a b) (R.add c d)
  four_products m n k l r a b c d e f g h j =
      let x = var 8 in
      let summed = ring_given laws (from_stored m ∷ from_stored n ∷ from_stored k ∷ from_stored l ∷ a ∷ b ∷ c ∷ d ∷ radix ∷ [])
      ((con 1, var 0, x :* var 4) ∷ (con 1, var 1, x :* var 5) ∷ (con 1, var 2, x :* var 6) ∷ (con 1, var 3, x :* var 7) ∷ [])
      (var 0 :+ var 1 :+ (var 2 :+ var 3)) (x :* (var 4 :+ var 5 :+ (var 6 :+ var 7))) (f, (g, (h, (j, tt)))) refl in
      let parts = add_stored (m + n) (k + l) ((m + n) + (k + l)) refl
      ∙ ap₂ (λ (y z : Residue p). R.add y z) (add_stored m n (m + n) refl) (add_stored k l (k + l) refl) in
      reduced_stored ((m + n) + (k + l)) r (R.add (R.add a b) (R.add c d)) e (parts ∙ summed)

  -- 2^64 times the squared inverse of 2^32 is one.
  squared : R.mul (R.mul (residue radix_squared) radix_inverse) radix_inverse ≡ R.one
  squared =
      ap (λ x. R.mul x radix_inverse) (residue_of_mul p positive radix_squared i)
      ∙ (residue_of_mul p positive (radix_squared * i) i ∙ residue_same _ _ facts.squared)

  -- What is reduced from 2^64 times a number is the stored form of the number.
  pub number_stored : (n r : ℕ) → residue r ≡ from_stored (n * radix_squared) → from_stored r ≡ residue n
  number_stored n r e =
      ring_given laws (from_stored r ∷ residue n ∷ residue r ∷ radix_inverse ∷ residue radix_squared ∷ [])
      ((con 1, var 0, var 2 :* var 3) ∷ (var 3, var 2, var 1 :* var 4 :* var 3) ∷ (var 1, var 4 :* var 3 :* var 3, con 1) ∷ [])
      (var 0) (var 1) (
        from_stored_is r,
        (
          e ∙ (from_stored_is (n * radix_squared) ∙ ap (λ z. R.mul z radix_inverse) (sym (residue_of_mul p positive n radix_squared))),
          (squared, tt),
        ),
      ) refl

  -- A number below the modulus whose residue is the element is its value.
  pub value_of : (r : ℕ) (a : Residue p) → r < p → residue r ≡ a → r ≡ a.value
  value_of r a below e = sym (mod-eq_of_lt below) ∙ ap (λ (x : Residue p). x.value) e

  -- The stored form of one.
  pub one_stored : from_stored one ≡ R.one
  one_stored = residue_same _ _ facts.one_is

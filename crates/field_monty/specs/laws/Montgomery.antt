-- An element of a field in Montgomery's form is stored as one number.
use Rattle.std.specs.Prelude.{◌≡◌, ◌<◌, ◌*◌, ◌%◌, ◌↔◌, ℕ, nat_eq, IsTrue}
use Rattle.std.proofs.Common.{sym, ap, ◌∙◌, arith}
use Rattle.std.proofs.lemmas.Bool.{eqb-true, eq-eqb}
use Rattle.std.proofs.lemmas.Nat.{mul-mod_first, mul-mod_second}
use native.Mathlib.Nat.{mod-eq_of_lt}
use Rattle.field.specs.Residue.{Residue, residue_same}
use Rattle.field_monty.specs.Montgomery.{from_stored, stored_of, IsMontgomery}

module _ {p modulus_inverse radix_squared one i : ℕ} (positive : 0 < p) (facts : IsMontgomery p modulus_inverse radix_squared one i) where
  -- Multiplying by 2^32 and by its inverse changes nothing.
  there_and_back : (n : ℕ) → n < p → n * (i * 4294967296) % p ≡ n
  there_and_back n below =
      let whole : n * 1 ≡ n = omega arith in
      sym (mul-mod_second n (i * 4294967296) p)
      ∙ (ap (λ x. n * x % p) facts.radix_inverts
      ∙ (mul-mod_second n 1 p ∙ (ap (λ x. x % p) whole ∙ mod-eq_of_lt below)))

  -- Going from a stored number to its element and back gives the same number.
  pub stored_again : (n : ℕ) → n < p → stored_of p (from_stored p i positive n) ≡ n
  stored_again n below =
      let grouped : n * i * 4294967296 ≡ n * (i * 4294967296) = omega arith in
      mul-mod_first (n * i) 4294967296 p ∙ (ap (λ x. x % p) grouped ∙ there_and_back n below)

  -- Going from an element to its stored number and back gives the same element.
  pub element_again : (a : Residue p) → from_stored p i positive (stored_of p a) ≡ a
  element_again a =
      let grouped : a.value * 4294967296 * i ≡ a.value * (i * 4294967296) = omega arith in
      residue_same _ a
      (mul-mod_first (a.value * 4294967296) i p ∙ (ap (λ x. x % p) grouped ∙ there_and_back a.value a.below))

  -- The test of the stored numbers passes exactly for equal elements.
  pub stored_equality : (a b : Residue p) → IsTrue (nat_eq (stored_of p a) (stored_of p b)) ↔ (a ≡ b)
  stored_equality a b = (
    λ e. sym (element_again a) ∙ (ap (from_stored p i positive) (eqb-true (stored_of p a) (stored_of p b) e) ∙ element_again b),
    λ e. eq-eqb (stored_of p a) (stored_of p b) (ap (stored_of p) e),
  )

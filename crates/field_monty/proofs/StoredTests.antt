-- The test of two stored numbers, by their elements.
use Rattle.std.proofs.Common.{◌≡◌, ℕ, ◌<◌, ◌*◌, ◌%◌, Bool, nat_eq, sym, ap, ap₂, ◌∙◌, arith}
use Rattle.field_monty.specs.Montgomery.{from_stored, stored_of, IsMontgomery}
use Rattle.field.specs.Residue.{Residue, residue_of, residue_same}
use Rattle.field_monty.specs.laws.Montgomery.{stored_again}

module _ {p modulus_inverse radix_squared one i : ℕ} (positive : 0 < p) (facts : IsMontgomery p modulus_inverse radix_squared one i) where
  -- The number that an element is stored as.
  number_of : (n : ℕ) (a : Residue p) → n < p → from_stored p i positive n ≡ a → n ≡ stored_of p a
  number_of n a below e = sym (stored_again positive facts n below) ∙ ap (stored_of p) e

  -- What the test of two stored numbers says is what that of the elements' numbers says.
  pub test_of : (m n : ℕ) (a b : Residue p) (r : Bool) → r ≡ nat_eq m n → m < p → n < p → from_stored p i positive m ≡ a → from_stored p i positive n ≡ b
      → r ≡ nat_eq (stored_of p a) (stored_of p b)
  test_of m n a b r e low high f g = e ∙ ap₂ nat_eq (number_of m a low f) (number_of n b high g)

  -- Only zero is stored as zero.
  pub zero_alone : (n : ℕ) → n < p → from_stored p i positive n ≡ residue_of p positive 0 → n ≡ 0
  zero_alone n below e =
      let none : 0 * i ≡ 0 = omega arith in
      let stored_as_zero : from_stored p i positive 0 ≡ residue_of p positive 0 = residue_same _ _ (ap (λ x. x % p) none) in
      number_of n _ below (e ∙ sym stored_as_zero) ∙ stored_again positive facts 0 positive

-- Residues that are stored as their values.
use Rattle.std.proofs.Common.{◌≡◌, ℕ, ◌<◌, ◌+◌, ◌-◌, ◌%◌, Bool, nat_eq, sym, ap, ap₂, ◌∙◌}
use native.Mathlib.Nat.{mod-eq_of_lt, add-mod-mod}
use Rattle.field.specs.Residue.{Residue, residue_of, residue_same}
use Rattle.field.specs.ResidueRing.{residue_ring}
use Rattle.field.specs.Ring.{sub_in}

module _ {p : ℕ} (positive : 0 < p) where
  -- A number below the modulus is the value of its residue.
  pub value_again : (n : ℕ) → n < p → (residue_of p positive n).value ≡ n
  value_again n below = mod-eq_of_lt below

  -- The value that a residue is stored as.
  number_of : (n : ℕ) (a : Residue p) → n < p → residue_of p positive n ≡ a → n ≡ a.value
  number_of n a below e = sym (value_again n below) ∙ ap (λ x. x.value) e

  -- What the test of two stored numbers says is what that of the values says.
  pub test_of : (m n : ℕ) (a b : Residue p) (r : Bool) → r ≡ nat_eq m n → m < p → n < p → residue_of p positive m ≡ a → residue_of p positive n ≡ b
      → r ≡ nat_eq a.value b.value
  test_of m n a b r e low high f g = e ∙ ap₂ nat_eq (number_of m a low f) (number_of n b high g)

  -- The residue of a difference, where the modulus is added first.
  pub difference_of : (a b : Residue p) (m n : ℕ) → m ≡ a.value → n ≡ b.value → residue_of p positive (m + (p - n)) ≡ sub_in (residue_ring p positive) a b
  difference_of a b m n e f =
      ap₂ (λ x y. residue_of p positive (x + (p - y))) e f ∙ residue_same _ _ (sym (add-mod-mod a.value (p - b.value) p))

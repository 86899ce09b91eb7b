-- When a residue is no square modulo a prime: Euler's criterion.
use Rattle.std.specs.Prelude.{◌≡◌, ◌≢◌, ◌<◌, ◌+◌, ◌-◌, ◌*◌, ◌^◌, ◌%◌, ℕ, zero, suc}
use Rattle.std.proofs.Common.{inl, inr, sym, ap, ap₂, ◌∙◌, arith}
use Rattle.std.proofs.Math.Nat.{pow-suc}
use native.Mathlib.Nat.{mod-eq_of_lt}
use Rattle.field.specs.Ring.{Ring, IsCommutativeRing, power}
use Rattle.field.specs.Characteristic.{IsPrime}
use Rattle.field.specs.laws.RingFacts.{power-add, power-mul, power_of_power, product_nonzero, zero_mul}
use Rattle.field.specs.Residue.{Residue, residue_of}
use Rattle.field.specs.ResidueRing.{residue_ring}
use Rattle.field.specs.laws.ResidueRing.{residue_ring_lawful, residue_of_mul, residue_of_mod}
use Rattle.field.specs.laws.PrimeResidues.{residue_decide, residue_domain, residue_fermat}

module _ (p : ℕ) (positive : 0 < p) where
  -- the ring of this module, and its laws
  abbrev R : Ring (Residue p)
  R = residue_ring p positive

  laws : IsCommutativeRing R
  laws = residue_ring_lawful p positive

  -- a, squared n times, modulo p
  abbrev pub squared : ℕ → ℕ → ℕ
  squared zero a = a
  squared (suc n) a = squared n (a * a % p)

  -- Squaring n times raises to the power 2^n.
  pub power-squared : (n a : ℕ) → power R (residue_of p positive a) (2 ^ n) ≡ residue_of p positive (squared n a)
  unfolding power
  power-squared zero a = laws.mul_one (residue_of p positive a)
  power-squared (suc n) a =
      let twice : 2 ^ suc n ≡ 2 * 2 ^ n = omega (arith, pow-suc 2 n) in
      let square : power R (residue_of p positive a) 2 ≡ residue_of p positive (a * a % p) =
      ap (R.mul (residue_of p positive a)) (laws.mul_one (residue_of p positive a))
      ∙ (residue_of_mul p positive a a ∙ sym (residue_of_mod p positive (a * a))) in
      ap (power R (residue_of p positive a)) twice
      ∙ (power_of_power laws (residue_of p positive a) 2 (2 ^ n)
      ∙ (ap (λ x. power R x (2 ^ n)) square ∙ power-squared n (a * a % p)))

  -- A power at a product, in two steps.
  pub power_by_steps : (w m n b c : ℕ) → power R (residue_of p positive w) m ≡ residue_of p positive b → power R (residue_of p positive b) n ≡ residue_of p positive c
      → power R (residue_of p positive w) (m * n) ≡ residue_of p positive c
  power_by_steps w m n b c e f =
      power_of_power laws (residue_of p positive w) m n ∙ (ap (λ x. power R x n) e ∙ f)

  -- A power at k * 2^n, by squaring the power at k n times.
  pub power_by_squares : (w k n b c : ℕ) → power R (residue_of p positive w) k ≡ residue_of p positive b → residue_of p positive (squared n b) ≡ residue_of p positive c
      → power R (residue_of p positive w) (k * 2 ^ n) ≡ residue_of p positive c
  power_by_squares w k n b c e f =
      power_of_power laws (residue_of p positive w) k (2 ^ n)
      ∙ (ap (λ x. power R x (2 ^ n)) e ∙ (power-squared n b ∙ f))

  module _ (prime : IsPrime p) (odd : 2 < p) (h : ℕ) (half : h + h ≡ p - 1) where
    -- The square of a nonzero element, to the power (p - 1) / 2, is one.
    square_to_half : (a : Residue p) → a ≢ R.zero → power R (R.mul a a) h ≡ R.one
    square_to_half a n =
        power-mul laws a a h
        ∙ (sym (power-add laws a h h) ∙ (ap (power R a) half ∙ residue_fermat p positive prime a n))

    -- An element that is -1 to that power is no square, and a nonzero square times it neither.
    no_square : (w : Residue p) → w ≢ R.zero → power R w h ≡ residue_of p positive (p - 1)
        → (u v : Residue p) → R.mul u u ≡ R.mul w (R.mul v v) → v ≢ R.zero → ⊥
    no_square w nonzero e u v same n =
        let domain = residue_domain p positive prime in
        let right = product_nonzero laws domain w (R.mul v v) nonzero (product_nonzero laws domain v v n n) in
        let left : u ≢ R.zero = λ z. right (sym same ∙ (ap (λ x. R.mul x u) z ∙ zero_mul laws u)) in
        let equal : R.one ≡ residue_of p positive (p - 1) =
        sym (square_to_half u left)
        ∙ (ap (λ x. power R x h) same
        ∙ (power-mul laws w (R.mul v v) h
        ∙ (ap₂ (λ (x y : Residue p). R.mul x y) e (square_to_half v n) ∙ laws.mul_one (residue_of p positive (p - 1))))) in
        let values : 1 % p ≡ (p - 1) % p = ap (λ (x : Residue p). x.value) equal in
        let first : 1 % p ≡ 1 = mod-eq_of_lt (omega arith) in
        let second : (p - 1) % p ≡ p - 1 = mod-eq_of_lt (omega arith) in
        omega (arith, sym first ∙ (values ∙ second))

    -- So a square that is a square times it is zero, as that one is.
    pub no_square_root : (w : Residue p) → w ≢ R.zero → power R w h ≡ residue_of p positive (p - 1)
        → (u v : Residue p) → R.mul u u ≡ R.mul w (R.mul v v) → v ≡ R.zero
    no_square_root w nonzero e u v same =
        elim (residue_decide p positive v) [
          | inl z ↦ z
          | inr n ↦ absurd (no_square w nonzero e u v same n)
        ]

  -- The residue of a positive number below the modulus is not zero.
  pub number_nonzero : (n : ℕ) → 0 < n → n < p → residue_of p positive n ≢ R.zero
  number_nonzero n above below e =
      let values : n % p ≡ 0 % p = ap (λ (x : Residue p). x.value) e in
      let same : n % p ≡ n = mod-eq_of_lt below in
      let none : 0 % p ≡ 0 = mod-eq_of_lt positive in
      omega (arith, above, sym same ∙ values ∙ none)

-- The integers modulo 2013265921 = 15 * 2^27 + 1 are a field that can be stored in Montgomery's form, and 11 is not a square in it.
use Rattle.std.specs.Prelude.{◌≡◌, ◌<◌, ℕ, refl}
use Rattle.std.proofs.Common.{arith}
use Rattle.field.specs.Characteristic.{IsPrime}
use Rattle.field_monty.specs.Montgomery.{IsMontgomery, from_stored}
use Rattle.field.specs.Residue.{Residue, residue_of, residue_same}
use Rattle.field.specs.ResidueRing.{residue_ring}
use Rattle.field.specs.Ring.{Ring, power}
use Rattle.field.specs.laws.NonResidue.{no_square_root, number_nonzero, power_by_squares}
use Rattle.field.specs.laws.Proth.{prime_by_proth}
use Rattle.field_monty.specs.laws.QuarticField.{HasNoSquareRoot}

-- The modulus is positive.
pub baby_bear_positive : 0 < 2013265921
baby_bear_positive = omega arith

-- the residue of n
abbrev pub baby_bear_of : ℕ → Residue 2013265921
baby_bear_of = residue_of 2013265921 baby_bear_positive

-- the ring of the integers modulo 2013265921
abbrev pub baby_bear_ring : Ring (Residue 2013265921)
baby_bear_ring = residue_ring 2013265921 baby_bear_positive

-- 11 to the power 15.
eleven_to_15 : power baby_bear_ring (baby_bear_of 11) 15 ≡ baby_bear_of 1227303670
unfolding power
eleven_to_15 = residue_same _ _ refl

-- 11 to the power (p - 1) / 2 is -1, by squaring its power 15.
pub eleven_to_half : power baby_bear_ring (baby_bear_of 11) 1006632960 ≡ baby_bear_of 2013265920
eleven_to_half =
    power_by_squares 2013265921 baby_bear_positive 11 15 26 1227303670 2013265920 eleven_to_15 (residue_same _ _ refl)

-- The modulus is prime, by Proth's theorem.
pub baby_bear_prime : IsPrime 2013265921
baby_bear_prime = prime_by_proth 15 26 2013265921 11 baby_bear_positive refl (omega arith) (omega arith) eleven_to_half

-- The constants that products are reduced with are right.
pub baby_bear_montgomery : IsMontgomery 2013265921 2281701377 1172168163 268435454 943718400
baby_bear_montgomery = record {
  prime = baby_bear_prime;
  small = omega arith;
  modulus_inverts = refl;
  radix_inverts = refl;
  squared = refl;
  squared_below = omega arith;
  one_below = omega arith;
  one_is = refl;
}

-- 11 is not a square in BabyBear, and -1 is one.
pub baby_bear_roots : HasNoSquareRoot baby_bear_ring (baby_bear_of 11) (baby_bear_of 1728404513)
baby_bear_roots = record {
  no_square =
      no_square_root 2013265921 baby_bear_positive baby_bear_prime (omega arith) 1006632960 refl (baby_bear_of 11)
      (number_nonzero 2013265921 baby_bear_positive 11 (omega arith) (omega arith)) eleven_to_half;
  minus_one = residue_same _ _ refl;
}

-- The number that 11 is stored as.
pub baby_bear_eleven : from_stored 2013265921 943718400 baby_bear_positive 939524073 ≡ baby_bear_of 11
baby_bear_eleven = residue_same _ _ refl

-- It is below the modulus.
pub baby_bear_eleven_below : 939524073 < 2013265921
baby_bear_eleven_below = omega arith

-- The integers modulo 2130706433 = 127 * 2^24 + 1 are a field that can be stored in Montgomery's form, and 3 is not a square in it.
use Rattle.std.specs.Prelude.{◌≡◌, ◌<◌, ℕ, refl}
use Rattle.std.proofs.Common.{arith}
use Rattle.field.specs.Characteristic.{IsPrime}
use Rattle.field_monty.specs.Montgomery.{IsMontgomery, from_stored}
use Rattle.field.specs.Residue.{Residue, residue_of, residue_same}
use Rattle.field.specs.ResidueRing.{residue_ring}
use Rattle.field.specs.Ring.{Ring, power}
use Rattle.field.specs.laws.NonResidue.{no_square_root, number_nonzero, power_by_squares}
use Rattle.field.specs.laws.Proth.{prime_by_proth}
use Rattle.field_monty.specs.laws.QuarticField.{HasNoSquareRoot}

-- The modulus is positive.
pub koala_bear_positive : 0 < 2130706433
koala_bear_positive = omega arith

-- the residue of n
abbrev pub koala_bear_of : ℕ → Residue 2130706433
koala_bear_of = residue_of 2130706433 koala_bear_positive

-- the ring of the integers modulo 2130706433
abbrev pub koala_bear_ring : Ring (Residue 2130706433)
koala_bear_ring = residue_ring 2130706433 koala_bear_positive

-- 3 to the power 127.
three_to_127 : power koala_bear_ring (koala_bear_of 3) 127 ≡ koala_bear_of 1791270792
unfolding power
three_to_127 = residue_same _ _ refl

-- 3 to the power (p - 1) / 2 is -1, by squaring its power 127.
pub three_to_half : power koala_bear_ring (koala_bear_of 3) 1065353216 ≡ koala_bear_of 2130706432
three_to_half =
    power_by_squares 2130706433 koala_bear_positive 3 127 23 1791270792 2130706432 three_to_127 (residue_same _ _ refl)

-- The modulus is prime, by Proth's theorem.
pub koala_bear_prime : IsPrime 2130706433
koala_bear_prime = prime_by_proth 127 23 2130706433 3 koala_bear_positive refl (omega arith) (omega arith) three_to_half

-- The constants that products are reduced with are right.
pub koala_bear_montgomery : IsMontgomery 2130706433 2164260865 402124772 33554430 1057030144
koala_bear_montgomery = record {
  prime = koala_bear_prime;
  small = omega arith;
  modulus_inverts = refl;
  radix_inverts = refl;
  squared = refl;
  squared_below = omega arith;
  one_below = omega arith;
  one_is = refl;
}

-- 3 is not a square in KoalaBear, and -1 is one.
pub koala_bear_roots : HasNoSquareRoot koala_bear_ring (koala_bear_of 3) (koala_bear_of 2113994754)
koala_bear_roots = record {
  no_square =
      no_square_root 2130706433 koala_bear_positive koala_bear_prime (omega arith) 1065353216 refl (koala_bear_of 3)
      (number_nonzero 2130706433 koala_bear_positive 3 (omega arith) (omega arith)) three_to_half;
  minus_one = residue_same _ _ refl;
}

-- The number that 3 is stored as.
pub koala_bear_three : from_stored 2130706433 1057030144 koala_bear_positive 100663290 ≡ koala_bear_of 3
koala_bear_three = residue_same _ _ refl

-- It is below the modulus.
pub koala_bear_three_below : 100663290 < 2130706433
koala_bear_three_below = omega arith

-- The modulus of Goldilocks is a prime, so the integers modulo it are a field; and 7 is not a square in it.
use Rattle.std.specs.Prelude.{◌≡◌, ◌≢◌, refl}
use Rattle.std.proofs.Common.{ap, ◌∙◌, arith}
use Rattle.field.specs.Characteristic.{HasCharacteristic, IsPrime}
use Rattle.field.specs.Residue.{Residue, residue_same}
use Rattle.field.specs.Ring.{IsCommutativeRing, IsDomain, IsInverse, power}
use Rattle.field.specs.laws.NonResidue.{no_square_root, number_nonzero, power_by_squares, power_by_steps, power-squared}
use Rattle.field.specs.laws.PrimeResidues.{residue_domain, residue_inverse_is}
use Rattle.field.specs.laws.Proth.{prime_by_proth}
use Rattle.field.specs.laws.ResidueRing.{residue_characteristic, residue_ring_lawful}
use Rattle.field_goldilocks.specs.Goldilocks.{goldilocks_inverse, goldilocks_of, goldilocks_positive, goldilocks_ring}

-- 7 to the power 3.
step_3 : power goldilocks_ring (goldilocks_of 7) 3 ≡ goldilocks_of 343
unfolding power
step_3 = residue_same _ _ refl

-- 343 to the power 5.
step_5 : power goldilocks_ring (goldilocks_of 343) 5 ≡ goldilocks_of 4747561509943
unfolding power
step_5 = residue_same _ _ refl

-- 4747561509943 to the power 17.
step_17 : power goldilocks_ring (goldilocks_of 4747561509943) 17 ≡ goldilocks_of 8125271997680889877
unfolding power
step_17 = residue_same _ _ refl

-- 8125271997680889877 to the power 257.
step_257 : power goldilocks_ring (goldilocks_of 8125271997680889877) 257 ≡ goldilocks_of 12134830135347446949
unfolding power
step_257 = residue_same _ _ refl

-- 12134830135347446949 to the power 2^16 + 1.
step_65537 : power goldilocks_ring (goldilocks_of 12134830135347446949) 65537 ≡ goldilocks_of 1753635133440165772
unfolding power
step_65537 = ap (goldilocks_ring.mul (goldilocks_of 12134830135347446949)) (power-squared 18446744069414584321 goldilocks_positive 16 12134830135347446949) ∙ residue_same _ _ refl

-- 7 to the power 2^32 - 1 = 3 * 5 * 17 * 257 * 65537.
seven_to_odd : power goldilocks_ring (goldilocks_of 7) 4294967295 ≡ goldilocks_of 1753635133440165772
seven_to_odd =
    power_by_steps 18446744069414584321 goldilocks_positive 7 65535 65537 12134830135347446949 1753635133440165772
    (power_by_steps 18446744069414584321 goldilocks_positive 7 255 257 8125271997680889877 12134830135347446949
    (power_by_steps 18446744069414584321 goldilocks_positive 7 15 17 4747561509943 8125271997680889877
    (power_by_steps 18446744069414584321 goldilocks_positive 7 3 5 343 4747561509943 step_3 step_5) step_17) step_257) step_65537

-- 7 to the power (p - 1) / 2 is -1.
pub seven_to_half : power goldilocks_ring (goldilocks_of 7) 9223372034707292160 ≡ goldilocks_of 18446744069414584320
seven_to_half =
    power_by_squares 18446744069414584321 goldilocks_positive 7 4294967295 31 1753635133440165772 18446744069414584320 seven_to_odd (residue_same _ _ refl)

-- The modulus is prime, by Proth's theorem.
pub goldilocks_prime : IsPrime 18446744069414584321
goldilocks_prime = prime_by_proth 4294967295 31 18446744069414584321 7 goldilocks_positive refl (omega arith) (omega arith) seven_to_half

-- 7 is not a square: a square that is 7 times another one is zero, as that one is.
pub goldilocks_no_root : (u v : Residue 18446744069414584321) → goldilocks_ring.mul u u ≡ goldilocks_ring.mul (goldilocks_of 7) (goldilocks_ring.mul v v) → v ≡ goldilocks_ring.zero
goldilocks_no_root =
    no_square_root 18446744069414584321 goldilocks_positive goldilocks_prime (omega arith) 9223372034707292160 refl (goldilocks_of 7)
    (number_nonzero 18446744069414584321 goldilocks_positive 7 (omega arith) (omega arith)) seven_to_half

-- The laws of the ring.
pub goldilocks_lawful : IsCommutativeRing goldilocks_ring
goldilocks_lawful = residue_ring_lawful 18446744069414584321 goldilocks_positive

-- It is a domain.
pub goldilocks_domain : IsDomain goldilocks_ring
goldilocks_domain = residue_domain 18446744069414584321 goldilocks_positive goldilocks_prime

-- Its characteristic is the modulus.
pub goldilocks_characteristic : HasCharacteristic goldilocks_ring 18446744069414584321
goldilocks_characteristic = residue_characteristic 18446744069414584321 goldilocks_positive

-- Every nonzero element has an inverse.
pub goldilocks_inverse_is : (x : Residue 18446744069414584321) → x ≢ goldilocks_ring.zero → IsInverse goldilocks_ring x (goldilocks_inverse x)
goldilocks_inverse_is = residue_inverse_is 18446744069414584321 goldilocks_positive goldilocks_prime

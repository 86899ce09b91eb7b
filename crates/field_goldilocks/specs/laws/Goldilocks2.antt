-- The quadratic extension of Goldilocks is a field.
use Rattle.std.specs.Prelude.{◌≡◌, ◌≢◌}
use Rattle.field.specs.Characteristic.{HasCharacteristic}
use Rattle.field.specs.Residue.{Residue}
use Rattle.field.specs.Ring.{IsCommutativeRing, IsDomain, IsEmbedding, IsInverse}
use Rattle.field.specs.laws.PrimeResidues.{residue_decide}
use Rattle.field_goldilocks.specs.Goldilocks.{goldilocks_inverse, goldilocks_of, goldilocks_positive, goldilocks_ring}
use Rattle.field_goldilocks.specs.Goldilocks2.{goldilocks2_inverse, goldilocks2_ring}
use Rattle.field_goldilocks.specs.Quadratic.{Quadratic, quadratic_cofactor, quadratic_embed, quadratic_norm}
use Rattle.field_goldilocks.specs.laws.Goldilocks.{goldilocks_characteristic, goldilocks_domain, goldilocks_inverse_is, goldilocks_lawful, goldilocks_no_root}
use Rattle.field_goldilocks.specs.laws.QuadraticField.{quadratic_characteristic, quadratic_domain, quadratic_embeds, quadratic_inverse_is, quadratic_invertible, quadratic_lawful, quadratic_norm_zero}

-- The polynomials modulo X^2 - 7 are a commutative ring.
pub goldilocks2_lawful : IsCommutativeRing goldilocks2_ring
goldilocks2_lawful = quadratic_lawful goldilocks_lawful (goldilocks_of 7)

-- They are a domain.
pub goldilocks2_domain : IsDomain goldilocks2_ring
goldilocks2_domain =
    quadratic_domain goldilocks_lawful goldilocks_domain (goldilocks_of 7) goldilocks_no_root
    goldilocks_inverse goldilocks_inverse_is (residue_decide 18446744069414584321 goldilocks_positive)

-- Their characteristic is that of Goldilocks.
pub goldilocks2_characteristic : HasCharacteristic goldilocks2_ring 18446744069414584321
goldilocks2_characteristic = quadratic_characteristic goldilocks_lawful (goldilocks_of 7) 18446744069414584321 goldilocks_characteristic

-- Goldilocks embeds in them.
pub goldilocks2_embeds : IsEmbedding goldilocks_ring goldilocks2_ring (quadratic_embed goldilocks_ring)
goldilocks2_embeds = quadratic_embeds goldilocks_lawful (goldilocks_of 7)

-- Every nonzero polynomial has an inverse.
pub goldilocks2_inverse_is : (a : Quadratic (Residue 18446744069414584321)) → a ≢ goldilocks2_ring.zero → IsInverse goldilocks2_ring a (goldilocks2_inverse a)
goldilocks2_inverse_is =
    quadratic_invertible goldilocks_lawful goldilocks_domain (goldilocks_of 7) goldilocks_no_root goldilocks_inverse goldilocks_inverse_is

-- The conjugate times an inverse of the norm is an inverse.
pub goldilocks2_cofactor : (a : Quadratic (Residue 18446744069414584321)) (d : Residue 18446744069414584321) → IsInverse goldilocks_ring (quadratic_norm goldilocks_ring (goldilocks_of 7) a) d
    → IsInverse goldilocks2_ring a (quadratic_cofactor goldilocks_ring (goldilocks_of 7) d a)
goldilocks2_cofactor a d = quadratic_inverse_is goldilocks_lawful (goldilocks_of 7) (λ _. d) a

-- Only zero has the norm zero.
pub goldilocks2_norm_zero : (a : Quadratic (Residue 18446744069414584321)) → quadratic_norm goldilocks_ring (goldilocks_of 7) a ≡ goldilocks_ring.zero → a ≡ goldilocks2_ring.zero
goldilocks2_norm_zero = quadratic_norm_zero goldilocks_lawful goldilocks_domain (goldilocks_of 7) goldilocks_no_root

-- The field of the integers modulo 18446744069414584321 = 2^64 - 2^32 + 1.
use Rattle.std.specs.Prelude.{◌<◌, ℕ}
use Rattle.std.proofs.Common.{arith}
use Rattle.field.specs.Ring.{Ring}
use Rattle.field.specs.Residue.{Residue, residue_of}
use Rattle.field.specs.ResidueRing.{residue_inverse, residue_ring}

-- The modulus is positive.
pub goldilocks_positive : 0 < 18446744069414584321
goldilocks_positive = omega arith

-- the residue of n
abbrev pub goldilocks_of : ℕ → Residue 18446744069414584321
goldilocks_of = residue_of 18446744069414584321 goldilocks_positive

-- the ring of the integers modulo 18446744069414584321
abbrev pub goldilocks_ring : Ring (Residue 18446744069414584321)
goldilocks_ring = residue_ring 18446744069414584321 goldilocks_positive

-- the inverse: the power p - 2
abbrev pub goldilocks_inverse : Residue 18446744069414584321 → Residue 18446744069414584321
goldilocks_inverse = residue_inverse 18446744069414584321 goldilocks_positive

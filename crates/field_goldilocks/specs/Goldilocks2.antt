-- The quadratic extension of Goldilocks: polynomials of degree at most 1 modulo X^2 - 7.
use Rattle.std.specs.Prelude.{◌++◌, codes, decimal, ℕ, List}
use Rattle.field.specs.Residue.{Residue}
use Rattle.field.specs.Ring.{Ring}
use Rattle.field_goldilocks.specs.Goldilocks.{goldilocks_inverse, goldilocks_of, goldilocks_ring}
use Rattle.field_goldilocks.specs.Quadratic.{Quadratic, quadratic_inverse, quadratic_ring}

-- the ring of the polynomials modulo X^2 - 7 over Goldilocks
abbrev pub goldilocks2_ring : Ring (Quadratic (Residue 18446744069414584321))
goldilocks2_ring = quadratic_ring goldilocks_ring (goldilocks_of 7)

-- the inverse, from the norm and an inverse in Goldilocks
abbrev pub goldilocks2_inverse : Quadratic (Residue 18446744069414584321) → Quadratic (Residue 18446744069414584321)
goldilocks2_inverse = quadratic_inverse goldilocks_ring (goldilocks_of 7) goldilocks_inverse

-- two numbers in decimal, separated by a comma
abbrev pub two_decimals : ℕ → ℕ → List ℕ
two_decimals k l = decimal k ++ (codes "," ++ decimal l)

-- the coefficients in decimal, lowest power first
abbrev pub goldilocks2_text : Quadratic (Residue 18446744069414584321) → List ℕ
goldilocks2_text a = two_decimals a.c0.value a.c1.value

-- Polynomials of degree at most 1 modulo X^2 - w, over a commutative ring.
use Rattle.std.specs.Prelude.{List, [], ◌∷◌, refl}
use Rattle.std.specs.Coded.{Coded, code_by, coded×}
use Rattle.field.specs.Ring.{Ring, sub_in}

-- c0 + c1 X
pub record Quadratic (A : Type 0) : Type 0 where
  pub c0 : A
  pub c1 : A

-- the coefficients, lowest power first
abbrev pub coefficients_of : {A : Type 0} → Quadratic A → List A
coefficients_of a = a.c0 ∷ a.c1 ∷ []

-- the ring of these polynomials: in a product, X^2 becomes w
abbrev pub quadratic_ring : {A : Type 0} → Ring A → A → Ring (Quadratic A)
quadratic_ring R w = record {
  zero = record { c0 = R.zero; c1 = R.zero };
  one = record { c0 = R.one; c1 = R.zero };
  add = λ a b. record { c0 = R.add a.c0 b.c0; c1 = R.add a.c1 b.c1 };
  mul = λ a b. record {
    c0 = R.add (R.mul a.c0 b.c0) (R.mul w (R.mul a.c1 b.c1));
    c1 = R.add (R.mul a.c0 b.c1) (R.mul a.c1 b.c0);
  };
  neg = λ a. record { c0 = R.neg a.c0; c1 = R.neg a.c1 };
}

-- an element of the coefficient ring as a polynomial
abbrev pub quadratic_embed : {A : Type 0} → Ring A → A → Quadratic A
quadratic_embed R x = record { c0 = x; c1 = R.zero }

-- a quadratic is stored as its coefficients, if their type can be stored
abbrev pub quadratic_coded : {A : Type 0} → Coded A → Coded (Quadratic A)
quadratic_coded {A} code =
    code_by (A × A) (coded× code code) (λ a. (a.c0, a.c1)) (λ t. record { c0 = t.0; c1 = t.1 }) (λ _. refl)

module _ {A : Type 0} (R : Ring A) (w : A) where
  -- the norm: the product of the polynomial and its conjugate
  abbrev pub quadratic_norm : Quadratic A → A
  quadratic_norm a = sub_in R (R.mul a.c0 a.c0) (R.mul w (R.mul a.c1 a.c1))

  -- the conjugate, times d
  abbrev pub quadratic_cofactor : A → Quadratic A → Quadratic A
  quadratic_cofactor d a = record { c0 = R.mul d a.c0; c1 = R.neg (R.mul d a.c1) }

  -- the inverse: the conjugate times the inverse of the norm
  abbrev pub quadratic_inverse : (A → A) → Quadratic A → Quadratic A
  quadratic_inverse inverse a = quadratic_cofactor (inverse (quadratic_norm a)) a

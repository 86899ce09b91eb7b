-- Roots of polynomials, and the polynomial that is zero.
use Rattle.std.specs.Prelude.{◌≡◌, List}
use Rattle.std.specs.List.{AllByRecursion}
use Rattle.field.specs.Polynomial.{value_at}
use Rattle.field.specs.Ring.{Ring}

-- x is a root: the value at x is zero
abbrev pub IsRoot : {A : Type 0} → Ring A → List A → A → Type 0
IsRoot R cs x = value_at R cs x ≡ R.zero

-- the polynomial is zero: all its coefficients are zero
abbrev pub IsZeroPolynomial : {A : Type 0} → Ring A → List A → Type 0
IsZeroPolynomial R cs = AllByRecursion (λ c. c ≡ R.zero) cs

-- each element of the list is a root
abbrev pub AreRoots : {A : Type 0} → Ring A → List A → List A → Type 0
AreRoots R cs xs = AllByRecursion (IsRoot R cs) xs

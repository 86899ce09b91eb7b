-- Coefficients of challenges.
use Rattle.std.specs.Prelude.{◌≡◌, ℕ, List, length}

-- each element of K has so many coefficients in F, and any so many are those of one element
pub record HasCoefficients {F K : Type 0} (coefficients : K → List F) (degree : ℕ) : Type 0 where
  pub count : (x : K) → length (coefficients x) ≡ degree
  pub one : (x : K) (y : K) → coefficients x ≡ coefficients y → x ≡ y
  pub each : (some : List F) → length some ≡ degree → (x : K) × (coefficients x ≡ some)

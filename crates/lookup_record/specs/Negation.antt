-- Negated expressions.
use Rattle.std.specs.Prelude.{◌≡◌, ℕ}

-- Of two values, the first is the negative of the other wherever they are evaluated, and both have
-- the same degree.
pub record IsNegation {S A : Type 0} (neg : A → A) (negated source : S → A) (negated_degree source_degree : ℕ → ℕ) : Type 0 where
  pub means : (s : S) → negated s ≡ neg (source s)
  pub degree_is : (t : ℕ) → negated_degree t ≡ source_degree t

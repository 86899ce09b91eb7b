-- Assertions with a condition.
use Rattle.std.specs.Prelude.{◌≡◌, ℕ, ◌+◌}

-- Of three values, the first is the product of the other two at each window. Of three degrees, the
-- first is the sum of the other two. And the expression is the product of the condition with the
-- other expression.
pub record IsProduct {W A : Type 0} (mul : A → A → A) (product left right : W → A) (product_degree left_degree right_degree : ℕ → ℕ) (is_node : Type 0) : Type 0 where
  pub means : (w : W) → product w ≡ mul (left w) (right w)
  pub degree_is : (t : ℕ) → product_degree t ≡ left_degree t + right_degree t
  pub node : is_node

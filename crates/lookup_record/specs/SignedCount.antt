-- What a contract sees of a count.
use Rattle.std.specs.Prelude.{ℕ}

-- a signed number of messages, and the most that one row adds to it in absolute value
pub record SignedCount (E : Type 0) : Type 0 where
  pub expression : E
  pub weight : ℕ

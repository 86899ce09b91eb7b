-- Tables with whole rows.
use Rattle.std.specs.Prelude.{◌≡◌, ◌<◌, ◌%◌, ℕ}

-- a table of so many columns and numbers has columns and rows, and each row is whole
pub record HasWholeRows (columns numbers : ℕ) : Type 0 where
  pub columns_there : 0 < columns
  pub rows_there : 0 < numbers
  pub whole : numbers % columns ≡ 0

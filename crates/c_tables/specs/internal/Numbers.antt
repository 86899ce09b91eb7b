-- Numbers that are at most a given one.
use Rattle.std.specs.Prelude.{◌<◌, ◌≤◌, ℕ, List, slice_index}

-- the first n numbers are at most this one
abbrev pub AreNumbersUpTo : ℕ → ℕ → List ℕ → Type 0
AreNumbersUpTo most n numbers = (k : ℕ) → k < n → slice_index numbers k ≤ most

-- four numbers are at most this one
pub record IsNumberGroupUpTo (most : ℕ) (ns : List ℕ) : Type 0 where
  pub n0 : slice_index ns 0 ≤ most
  pub n1 : slice_index ns 1 ≤ most
  pub n2 : slice_index ns 2 ≤ most
  pub n3 : slice_index ns 3 ≤ most

-- Guards on the lookups of all AIRs.
use Rattle.std.specs.Prelude.{◌≡◌, ◌<◌, ◌≤◌, ◌+◌, ◌-◌, ◌*◌, ◌^◌, ℕ, List, min}
use Rattle.std.specs.List.{sum_by, zip}
use Rattle.lookup_model.specs.declared.error.LookupError.{LookupError}
use Rattle.lookup_model.specs.declared.error.LookupError.TheVariants.{MultiplicityHeightBoundExceeded}
use Rattle.lookup_model.specs.declared.types.Lookup.{Lookup}

-- the total weight of the lookups of an AIR, times the height of its traces
abbrev pub weighted_height : {F : Type 0} → List (Lookup F) × ℕ → ℕ
weighted_height air = sum_by (λ lookup. lookup.count_weight) air.0 * air.1

-- the sum of this over all AIRs, in whole numbers
abbrev pub weighted_height_sum : {F : Type 0} → List (List (Lookup F)) → List ℕ → ℕ
weighted_height_sum airs heights = sum_by weighted_height (zip airs heights)

-- n has this many binary digits: it is below 2^bits, and at least half of that, rounded down
pub record IsBitLength (n bits : ℕ) : Type 0 where
  pub below : n < 2 ^ bits
  pub half : 2 ^ bits ≤ 2 * n + 1

-- the refusal of a sum that reaches p: it names the sum, if that fits 128 bits, and the bit length of p
pub record IsHeightRefusal (p sum : ℕ) (e : LookupError) : Type 0 where
  pub bits : ℕ
  pub reached : p ≤ sum
  pub digits : IsBitLength p bits
  pub error_is : e ≡ MultiplicityHeightBoundExceeded (min sum (2 ^ 128 - 1)) bits

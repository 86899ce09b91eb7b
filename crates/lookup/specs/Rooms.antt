-- What evaluation asks of a builder.
use Rattle.std.specs.Prelude.{◌*◌, ◌<◌, ◌≤◌, ℕ}
use Rattle.air_expressions.specs.declared.layout.AirLayout.{AirLayout}

-- A builder of this layout has room for so many lookups: two challenges for each of them. If there are
-- any, it has one cell more than there are lookups, and a permutation value.
pub record HasRoomForLookups (layout : AirLayout) (lookups : ℕ) : Type 0 where
  pub challenges : 2 * lookups ≤ layout.num_permutation_challenges
  pub cells : 0 < lookups → lookups < layout.permutation_width
  pub terminal : 0 < lookups → 0 < layout.num_permutation_values

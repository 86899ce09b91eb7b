-- Bounds of queries, and whether they stay within the weight of their lookup.
use Rattle.std.specs.Prelude.{◌≡◌, ◌≤◌, ℕ, All, Bool, true, false, List, Option, ◌&&◌, length, unwrap_or}
use Rattle.std.specs.List.{sum_by, zip}
use Rattle.std.specs.Option.{is_some, IsSome}
use Rattle.lookup_enforced.specs.declared.enforcement.Enforcement.{Enforcement}
use Rattle.lookup_model.specs.Records.{HasEqualLengths}
use Rattle.lookup_model.specs.declared.types.Lookup.{Lookup}

-- a query has a bound; a provided entry needs none
abbrev pub HasBound : Option ℕ × Bool → Type 0
HasBound (bound, true) = IsSome bound
HasBound (bound, false) = Unit {0}

-- the bound of a query, 0 of a provided entry
abbrev pub query_bound : Option ℕ × Bool → ℕ
query_bound (bound, true) = unwrap_or bound 0
query_bound (bound, false) = 0

-- Each query has a bound; these bounds are at most the weight, or all together are.
abbrev pub AreWithin : Bool → List (Option ℕ × Bool) → ℕ → Type 0
AreWithin true bounds weight = All (λ b. HasBound b × (query_bound b ≤ weight)) bounds
AreWithin false bounds weight = All HasBound bounds × (sum_by query_bound bounds ≤ weight)

-- The lists of a lookup, its bounds and its queries have one length, and the bounds of its queries stay within
-- its weight: each does if flags are enforced, and else all together do.
pub record StaysWithinWeight {F : Type 0} (lookup : Lookup F) (e : Enforcement) (queries : List Bool) : Type 0 where
  pub lengths : HasEqualLengths lookup
  pub queries_are : length queries ≡ length lookup.multiplicities.items
  pub bounds_are : length queries ≡ length e.bounds.items
  pub within : AreWithin (is_some lookup.flags && e.flags) (zip e.bounds.items queries) lookup.count_weight

-- Bounds beside queries, as far as a loop has come.
use Rattle.std.proofs.Common.{◌≡◌, ◌<◌, ◌≤◌, ◌+◌, ℕ, Bool, false, None, Option, List, All, get_or, length, take, sym, ap, subst, ◌∙◌, arith}
use Rattle.std.proofs.lemmas.List.{take_all}
use Rattle.std.proofs.lemmas.List.Elements.{All-more}
use Rattle.std.proofs.lemmas.List.Sums.{sum_by-take-le, sum_by_more}
use Rattle.std.proofs.lemmas.Slice.Zip.{get_or-zip, length-zip}
use Rattle.std.specs.List.{sum_by, zip}
use Rattle.lookup_enforced.specs.Weights.{query_bound}

module _ (bounds : List (Option ℕ)) (queries : List Bool) (same : length queries ≡ length bounds) (at : ℕ) where
  -- at the end all of them
  pub at_end : length bounds ≤ at → take at (zip bounds queries) ≡ zip bounds queries
  at_end le = take_all at (zip bounds queries) (omega (arith, length-zip bounds queries, le))

  module _ (lt : at < length bounds) where
    within : at < length (zip bounds queries)
    within = omega (arith, length-zip bounds queries, same, lt)

    beside : get_or (zip bounds queries) at (None, false) ≡ (get_or bounds at None, get_or queries at false)
    beside = get_or-zip bounds queries at (None, false) lt (omega (arith, same, lt))

    -- what holds of all holds of the next one
    pub here : (P : Option ℕ × Bool → Type 0) → All P (zip bounds queries) → P (get_or bounds at None, get_or queries at false)
    here P all = subst P beside (all at (None, false) within)

    -- one more of which it holds
    pub one_more : (P : Option ℕ × Bool → Type 0) → All P (take at (zip bounds queries)) → P (get_or bounds at None, get_or queries at false) → All P (take (at + 1) (zip bounds queries))
    one_more P all next = All-more P (zip bounds queries) at (None, false) within all (subst P (sym beside) next)

    -- the sum with one more
    pub sum_more : sum_by query_bound (take (at + 1) (zip bounds queries)) ≡ sum_by query_bound (take at (zip bounds queries)) + query_bound (get_or bounds at None, get_or queries at false)
    sum_more =
        sum_by_more query_bound (zip bounds queries) at (None, false) within ∙ ap (λ b. sum_by query_bound (take at (zip bounds queries)) + query_bound b) beside

    -- it is within the whole sum
    pub sum_within : sum_by query_bound (take at (zip bounds queries)) + query_bound (get_or bounds at None, get_or queries at false) ≤ sum_by query_bound (zip bounds queries)
    sum_within = omega (arith, sum_more, sum_by-take-le query_bound (zip bounds queries) (at + 1))

use Rattle.std.proofs.Common.{◌≡◌, ◌+◌, All, take}
use Rattle.std.specs.List.{sum_by, zip}
use Rattle.lookup_enforced.specs.Weights.{HasBound, query_bound}
use Rattle.lookup_enforced.proofs.weight.all_are_within.Given as goal

abbrev pub invariant-loop-at : goal.invariant-loop-at
invariant-loop-at l = All HasBound (take l.at (zip l.bounds l.queries)) × (sum_by query_bound (take l.at (zip l.bounds l.queries)) + l.left ≡ l.weight)

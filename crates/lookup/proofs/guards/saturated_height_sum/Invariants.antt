use Rattle.std.proofs.Common.{◌≡◌, ◌-◌, ◌^◌, map, min, take}
use Rattle.std.specs.List.{sum_by, zip}
use Rattle.lookup.specs.Guards.{weighted_height}
use Rattle.lookup.specs.Lookups.{lookups_of}
use Rattle.lookup.proofs.guards.saturated_height_sum.Given as goal

abbrev pub invariant-loop-air : goal.invariant-loop-air
invariant-loop-air g l = l.sum ≡ min (sum_by weighted_height (take l.air (zip (map lookups_of l.airs) l.heights))) (2 ^ 128 - 1)

use Rattle.std.proofs.Common.{◌≡◌, ◌-◌, ◌^◌, map, min, take}
use Rattle.check_judge.specs.Found.{height_sum}
use Rattle.check_judge.specs.internal.Sizes.{sized_lookups_of}
use Rattle.check_judge.proofs.sizes.height_sum.Given as goal

abbrev pub invariant-loop-air : goal.invariant-loop-air
invariant-loop-air g l = l.sum ≡ min (height_sum (map sized_lookups_of (take l.air-index l.airs))) (2 ^ 128 - 1)

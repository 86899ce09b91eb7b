use Rattle.std.proofs.Common.{◌≡◌, map, take}
use Rattle.check_judge.specs.Found.{sized_of}
use Rattle.check_judge.specs.Airs.{over_traced}
use Rattle.check_judge.specs.internal.Sizes.{sized_lookups_of}
use Rattle.check_judge.proofs.judgement.sizes_of.Given as goal

abbrev pub invariant-loop-air : goal.invariant-loop-air
invariant-loop-air g l = map sized_lookups_of l.sizes.items ≡ map (λ air. sized_of (over_traced air)) (take l.air-index l.airs)

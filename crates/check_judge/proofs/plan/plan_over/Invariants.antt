use Rattle.std.proofs.Common.{◌≡◌, map, take}
use Rattle.lookup.specs.Lookups.{lookups_of}
use Rattle.lookup_model.specs.Outline.{outline_of}
use Rattle.check_judge.specs.internal.Sizes.{sized_lookups_of}
use Rattle.check_judge.proofs.plan.plan_over.Given as goal

abbrev pub invariant-loop-air : goal.invariant-loop-air
invariant-loop-air g l = record {
  copies : map (λ set. map outline_of (lookups_of set)) l.lookups.items ≡ map (λ air. map outline_of (sized_lookups_of air).lookups) (take l.air-index l.airs);
  heights : l.heights.items ≡ map (λ air. (sized_lookups_of air).rows) (take l.air-index l.airs);
}

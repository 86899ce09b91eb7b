use Rattle.std.proofs.Common.{◌≡◌, map, take}
use Rattle.batch.specs.Traces.{view_of}
use Rattle.check_judge.specs.Airs.{over_traced}
use Rattle.check_judge.proofs.judgement.traces_of.Given as goal

abbrev pub invariant-loop-air : goal.invariant-loop-air
invariant-loop-air g l = map view_of l.traces.items ≡ map (λ air. (over_traced air).traces) (take l.air-index l.airs)

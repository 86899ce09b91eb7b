use Rattle.std.proofs.Common.{◌≡◌, map, take}
use Rattle.lookup_debug.specs.Contributions.{traced_of}
use Rattle.check_judge.specs.Airs.{over_traced}
use Rattle.check_judge.proofs.judgement.instances_of.Given as goal

abbrev pub invariant-loop-air : goal.invariant-loop-air
invariant-loop-air g l = map traced_of l.instances.items ≡ map over_traced (take l.air-index l.airs)

use Rattle.std.proofs.Common.{◌≡◌, map, take}
use Rattle.c_calls.proofs.batch_tables.heights_of.Given as goal

abbrev pub invariant-loop-air : goal.invariant-loop-air
invariant-loop-air l = l.heights.items ≡ map (λ air. air.height) (take l.air-index l.airs)

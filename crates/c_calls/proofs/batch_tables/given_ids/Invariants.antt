use Rattle.std.proofs.Common.{◌≡◌, map, take}
use Rattle.batch.specs.Lists.{lists_of}
use Rattle.c_calls.proofs.batch_tables.given_ids.Given as goal

abbrev pub invariant-loop-index : goal.invariant-loop-index
invariant-loop-index l = lists_of l.ids.items ≡ map (λ air. air.ids.now) (take l.index l.airs)

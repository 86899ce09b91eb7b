use Rattle.std.proofs.Common.{◌≡◌, length, take}
use Rattle.std.specs.List.{flat_map}
use Rattle.c_calls.specs.Plan.{id_items}
use Rattle.c_calls.proofs.plan.id_count.Given as goal

abbrev pub invariant-loop-list : goal.invariant-loop-list
invariant-loop-list l = l.count ≡ length (flat_map id_items (take l.list-index l.ids))

use Rattle.std.proofs.Common.{◌≡◌, length, take}
use Rattle.std.specs.List.{flat_map}
use Rattle.c_calls.specs.Plan.{id_items}
use Rattle.c_calls.proofs.plan.write_ids.Given as goal

abbrev pub invariant-loop-list : goal.invariant-loop-list
invariant-loop-list l = record {
  at_is : l.at ≡ length (flat_map id_items (take l.list-index l.ids));
  written : take l.at l.numbers ≡ flat_map id_items (take l.list-index l.ids);
}

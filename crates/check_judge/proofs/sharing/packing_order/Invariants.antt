use Rattle.std.proofs.Common.{◌≡◌, ◌++◌, map, take, flat_map}
use Rattle.lookup.specs.Buses.{bus_groups}
use Rattle.lookup.specs.Packing.{additive_lookups, passing}
use Rattle.check_judge.specs.internal.Sharing.{tuples_of}
use Rattle.lookup_model.specs.Outline.{fields_of}
use Rattle.check_judge.proofs.OrderLaws.{kept_group}
use Rattle.lookup.proofs.GroupLaws.{viewed}
use Rattle.check_judge.proofs.sharing.packing_order.Given as goal

abbrev pub invariant-loop-lookup : goal.invariant-loop-lookup
invariant-loop-lookup g l = record {
  passing : l.order.items ≡ map tuples_of (passing (map fields_of (take l.lookup-index l.lookups)));
  buses : viewed (λ b. b.now) (λ v. v.items) l.buses.entries ≡ map (kept_group tuples_of) (bus_groups (additive_lookups (map fields_of (take l.lookup-index l.lookups))));
}

abbrev pub invariant-loop-group : goal.invariant-loop-group
invariant-loop-group g l = l.order.items ≡ l.initial.order.items ++ flat_map (λ v. v.items) (take l.group-index l.group-items)

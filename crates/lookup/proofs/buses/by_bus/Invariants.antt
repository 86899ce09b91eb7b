use Rattle.std.proofs.Common.{◌≡◌, map, take}
use Rattle.lookup_model.specs.Outline.{fields_of}
use Rattle.lookup.specs.Buses.{bus_groups, group_of}
use Rattle.lookup.proofs.buses.by_bus.Given as goal

abbrev pub invariant-loop-lookup : goal.invariant-loop-lookup
invariant-loop-lookup g l = map group_of l.buses.entries ≡ bus_groups (map fields_of (take l.lookup-index l.lookups))

use Rattle.std.proofs.Common.{◌≡◌, ◌++◌, map, take}
use Rattle.std.specs.List.{flat_map}
use Rattle.lookup_model.specs.Outline.{fields_of}
use Rattle.lookup.specs.BusWidths.{widths_of}
use Rattle.lookup.specs.Buses.{bus_groups}
use Rattle.lookup.specs.NamedWidths.{seen_widths}
use Rattle.lookup.proofs.bus_widths.push_air.Given as goal

abbrev pub invariant-loop-index : goal.invariant-loop-index
invariant-loop-index g l = seen_widths l.widths.items ≡ seen_widths l.fn.widths.items ++ flat_map (λ g. map (λ w. (g.0, w)) (flat_map widths_of g.1)) (take l.index (bus_groups (map fields_of l.fn.lookups)))

use Rattle.std.proofs.Common.{◌≡◌, ◌++◌, map, take}
use Rattle.std.specs.List.{flat_map}
use Rattle.lookup_model.specs.Outline.{fields_of}
use Rattle.lookup.specs.BusWidths.{widths_of}
use Rattle.lookup.specs.NamedWidths.{seen_widths}
use Rattle.lookup.proofs.bus_widths.push_bus.Given as goal

abbrev pub invariant-loop-lookup : goal.invariant-loop-lookup
invariant-loop-lookup g l = seen_widths l.widths.items ≡ seen_widths l.fn.widths.items ++ flat_map (λ r. map (λ w. (l.fn.name, w)) (widths_of (fields_of r.now))) (take l.lookup-index l.members)

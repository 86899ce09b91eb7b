use Rattle.std.proofs.Common.{◌≡◌, map, take}
use Rattle.std.specs.List.{flat_map}
use Rattle.lookup_model.specs.Outline.{fields_of}
use Rattle.lookup.specs.Lookups.{lookups_of}
use Rattle.lookup.specs.NamedWidths.{named_widths, seen_widths}
use Rattle.lookup.proofs.bus_widths.widths_on_buses.Given as goal

abbrev pub invariant-loop-air : goal.invariant-loop-air
invariant-loop-air g l = seen_widths l.widths.items ≡ flat_map (λ air. named_widths (map fields_of (lookups_of air))) (take l.air-index l.airs)

use Rattle.std.proofs.Common.{map, take}
use Rattle.std.specs.List.{AllByRecursion}
use Rattle.lookup_model.specs.Outline.{fields_of}
use Rattle.lookup.specs.Buses.{bus_names}
use Rattle.lookup.specs.BusWidths.{HasOneWidth, bus_widths}
use Rattle.lookup.proofs.tuple_widths.assert_bus_widths.Given as goal

abbrev pub invariant-loop-index : goal.invariant-loop-index
invariant-loop-index g l =
    AllByRecursion (λ name. HasOneWidth (bus_widths name (map fields_of l.fn.lookups))) (take l.index (bus_names (map fields_of l.fn.lookups)))

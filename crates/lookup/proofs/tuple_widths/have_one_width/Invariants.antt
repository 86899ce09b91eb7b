use Rattle.std.proofs.Common.{◌≡◌, None, find, map, take}
use Rattle.std.specs.List.{flat_map}
use Rattle.lookup_model.specs.Outline.{fields_of}
use Rattle.lookup.specs.BusWidths.{widths_of}
use Rattle.lookup.proofs.WidthLaws.{is_other}
use Rattle.lookup.proofs.tuple_widths.have_one_width.Given as goal

abbrev pub invariant-loop-lookup : goal.invariant-loop-lookup
invariant-loop-lookup g l = find (is_other l.width) (flat_map widths_of (map fields_of (take l.lookup-index l.lookups))) ≡ None

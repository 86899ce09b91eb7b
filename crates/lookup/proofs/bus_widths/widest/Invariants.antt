use Rattle.std.proofs.Common.{◌≡◌, map, take}
use Rattle.lookup_model.specs.LookupDegree.{greatest}
use Rattle.lookup.specs.NamedWidths.{AgreeOnWidths, seen_widths}
use Rattle.lookup.proofs.NamedWidthLaws.{HoldsFirst}
use Rattle.lookup.proofs.bus_widths.widest.Given as goal

abbrev pub invariant-loop-index : goal.invariant-loop-index
invariant-loop-index l = record {
  held : HoldsFirst (λ k. k.now) l.firsts.entries (take l.index (seen_widths l.widths));
  agree : AgreeOnWidths (take l.index (seen_widths l.widths));
  greatest_is : l.widest ≡ greatest (map (λ w. w.1) (take l.index (seen_widths l.widths)));
}

use Rattle.std.proofs.Common.{◌≡◌, ◌++◌, length, map, take}
use Rattle.lookup.specs.NamedWidths.{seen_widths}
use Rattle.lookup.proofs.bus_widths.push_tuples.Given as goal

abbrev pub invariant-loop-tuple : goal.invariant-loop-tuple
invariant-loop-tuple g l = seen_widths l.widths.items ≡ seen_widths l.fn.widths.items ++ map (λ tuple. (l.fn.name, length tuple.items)) (take l.tuple-index l.tuples)

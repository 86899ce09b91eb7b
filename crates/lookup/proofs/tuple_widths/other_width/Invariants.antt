use Rattle.std.proofs.Common.{◌≡◌, None, find, length, map, take}
use Rattle.lookup.proofs.WidthLaws.{is_other}
use Rattle.lookup.proofs.tuple_widths.other_width.Given as goal

abbrev pub invariant-loop-tuple : goal.invariant-loop-tuple
invariant-loop-tuple g l = find (is_other l.width) (map (λ tuple. length tuple.items) (take l.tuple-index l.tuples)) ≡ None

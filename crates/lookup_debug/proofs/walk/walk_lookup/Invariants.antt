use Rattle.std.specs.List.{flat_map, range_with_len}
use Rattle.lookup_debug.specs.Contributions.{contributions_on, traced_of}
use Rattle.lookup_debug.proofs.walk.walk_lookup.Given as goal

abbrev pub invariant-loop-row : goal.invariant-loop-row
invariant-loop-row g l =
    g.V.RowVisitor.changes l.fn.visitor l.visitor (flat_map (contributions_on g.F.PrimeCharacteristicRing.ring g.F.PartialEq.eq l.instance l.index (traced_of l.traced) l.lookup) (range_with_len 0 l.row))

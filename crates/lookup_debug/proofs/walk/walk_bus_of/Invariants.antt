use Rattle.std.proofs.Common.{take}
use Rattle.std.specs.List.{filter, flat_map}
use Rattle.lookup_debug.specs.Contributions.{traced_of}
use Rattle.lookup_debug.specs.Groups.{is_on, lookup_contributions, lookups_in}
use Rattle.lookup_debug.proofs.walk.walk_bus_of.Given as goal

abbrev pub invariant-loop-index : goal.invariant-loop-index
invariant-loop-index g l =
    g.V.RowVisitor.changes l.fn.visitor l.visitor (flat_map (lookup_contributions g.F.PrimeCharacteristicRing.ring g.F.PartialEq.eq) (filter (is_on l.name) (take l.index (lookups_in (l.instance, traced_of l.traced)))))

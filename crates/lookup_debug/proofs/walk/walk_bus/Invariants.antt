use Rattle.std.proofs.Common.{map, take}
use Rattle.std.specs.List.{enumerate_from, filter, flat_map}
use Rattle.lookup_debug.specs.Contributions.{traced_of}
use Rattle.lookup_debug.specs.Groups.{is_on, lookup_contributions, lookups_in}
use Rattle.lookup_debug.proofs.walk.walk_bus.Given as goal

abbrev pub invariant-loop-instance : goal.invariant-loop-instance
invariant-loop-instance g l =
    g.V.RowVisitor.changes l.fn.visitor l.visitor (flat_map (lookup_contributions g.F.PrimeCharacteristicRing.ring g.F.PartialEq.eq) (filter (is_on l.name) (flat_map lookups_in (take l.instance (enumerate_from 0 (map traced_of l.instances))))))

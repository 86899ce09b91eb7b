use Rattle.std.proofs.Common.{◌≡◌, map, nat_eq, take}
use Rattle.std.specs.Cmp.Lexicographic.{pointwise}
use Rattle.std.specs.List.{enumerate_from, filter_map, flat_map}
use Rattle.indexmap.specs.IndexSet.{keys}
use Rattle.lookup_model.specs.Net.{first_seen}
use Rattle.lookup_model.specs.Outline.{bus_of}
use Rattle.lookup_debug.specs.Contributions.{traced_of}
use Rattle.lookup_debug.specs.Groups.{lookups_in}
use Rattle.lookup_debug.proofs.groups.bus_names.Given as goal

abbrev pub invariant-loop-instance : goal.invariant-loop-instance
invariant-loop-instance g l =
    map (λ n. n.now) (keys l.names) ≡ first_seen (pointwise nat_eq) (filter_map (λ p. bus_of p.lookup.kind) (flat_map lookups_in (take l.instance-index (enumerate_from 0 (map traced_of l.instances)))))

use Rattle.std.proofs.Common.{◌≡◌, ◌++◌, List, map, nat_eq, take, ℕ}
use Rattle.std.specs.Cmp.Lexicographic.{pointwise}
use Rattle.std.specs.List.{filter_map}
use Rattle.indexmap.specs.IndexSet.{keys}
use Rattle.lookup_model.specs.Net.{first_seen}
use Rattle.lookup_model.specs.Outline.{bus_of}
use Rattle.lookup_debug.proofs.groups.add_names.Given as goal

abbrev pub invariant-loop-lookup : goal.invariant-loop-lookup
invariant-loop-lookup g l =
    (seen : List (List ℕ)) → map (λ n. n.now) (keys l.fn.names) ≡ first_seen (pointwise nat_eq) seen
    → map (λ n. n.now) (keys l.names) ≡ first_seen (pointwise nat_eq) (seen ++ filter_map (λ k. bus_of k.kind) (take l.lookup-index l.lookups))

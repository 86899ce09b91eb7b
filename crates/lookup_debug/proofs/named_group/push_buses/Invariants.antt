use Rattle.std.proofs.Common.{List, map, take}
use Rattle.lookup_debug.specs.Contributions.{Traced}
use Rattle.lookup_debug.specs.Groups.{bus_group}
use Rattle.lookup_debug.specs.internal.GroupList.{AddsGroups}
use Rattle.lookup_debug.proofs.named_group.push_buses.Given as goal

abbrev pub invariant-loop-name : goal.invariant-loop-name
invariant-loop-name g l =
    let R = g.F.PrimeCharacteristicRing.ring in
    let eq = g.F.PartialEq.eq in
    (all : List (Traced _)) → AddsGroups R eq all l.fn.groups.items l.groups.items (map (bus_group R eq all) (map (λ n. n.now) (take l.name-index l.names)))

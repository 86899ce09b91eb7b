use Rattle.std.proofs.Common.{map}
use Rattle.lookup_debug.specs.Contributions.{traced_of}
use Rattle.lookup_debug.specs.internal.GroupList.{ListsGroups}
use Rattle.lookup_debug.proofs.GroupLaws.{first_air_groups}
use Rattle.lookup_debug.proofs.named_group.groups_of.Given as goal

abbrev pub invariant-loop-instance : goal.invariant-loop-instance
invariant-loop-instance g l =
    let R = g.F.PrimeCharacteristicRing.ring in
    let eq = g.F.PartialEq.eq in
    let all = map traced_of l.instances in
    ListsGroups R eq all l.groups.items (first_air_groups R eq all l.instance)

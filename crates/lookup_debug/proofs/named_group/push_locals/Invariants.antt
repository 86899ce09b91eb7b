use Rattle.std.proofs.Common.{List}
use Rattle.lookup_debug.specs.Contributions.{Traced, traced_of}
use Rattle.lookup_debug.specs.internal.GroupList.{AddsGroups}
use Rattle.lookup_debug.proofs.GroupLaws.{first_local_groups}
use Rattle.lookup_debug.proofs.named_group.push_locals.Given as goal

abbrev pub invariant-loop-index : goal.invariant-loop-index
invariant-loop-index g l =
    let R = g.F.PrimeCharacteristicRing.ring in
    let eq = g.F.PartialEq.eq in
    (all : List (Traced _)) → AddsGroups R eq all l.fn.groups.items l.groups.items (first_local_groups R eq (l.instance, traced_of l.traced) l.index)

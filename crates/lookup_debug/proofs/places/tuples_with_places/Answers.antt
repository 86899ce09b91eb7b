use Rattle.std.proofs.Common.{[], ap, map, ◌∙◌}
use Rattle.list_laws.proofs.Images.{same_length}
use Rattle.lookup_debug.specs.BusTable.{entry_of}
use Rattle.lookup_debug.specs.Contributions.{traced_of}
use Rattle.lookup_debug.specs.internal.GroupList.{group_of}
use Rattle.lookup_debug.specs.internal.Places.{placed_entry}
use Rattle.lookup_debug.proofs.places.tuples_with_places.Goals as goal

pub walk_group-requires-clause-ready : goal.walk_group-requires-clause-ready
walk_group-requires-clause-ready g c =
    let places = c.in_ok-places.places in
    same_length entry_of (placed_entry g.F.PrimeCharacteristicRing.ring g.F.PartialEq.eq places.limit []) places.tuples.items places.listed.entries c.in_ok-places.ensures.2

pub returns : goal.returns
returns g c =
    let R = g.F.PrimeCharacteristicRing.ring in
    let eq = g.F.PartialEq.eq in
    let cs = (group_of R eq (map traced_of c.args.instances.now) c.args.group.now).contributions in
    let done = c.in_ok-walk_group.ensures in
    let limit = done.limit ∙ c.in_ok-places.ensures.1 in
    let listed = done.listed ∙ c.in_ok-places.ensures.0 in
    ap (λ v. map entry_of v.items) c.into_tuples.ensures
    ∙ done.places [] c.in_ok-places.ensures.2
    ∙ (λ i. map (placed_entry R eq (limit i) cs) ((listed i).entries))

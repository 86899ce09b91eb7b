use Rattle.std.proofs.Common.{◌++◌, ◌∷◌, [], ap, map, sym, ◌∙◌}
use Rattle.std.proofs.lemmas.List.{map-append, take_all}
use Rattle.list_laws.proofs.Images.{images_more, map-map}
use Rattle.lookup_debug.specs.BusTable.{group_row, row_of}
use Rattle.lookup_debug.specs.Contributions.{traced_of}
use Rattle.lookup_debug.specs.Groups.{groups}
use Rattle.field.specs.Signs.{is_negative}
use Rattle.lookup_debug.specs.internal.GroupList.{group_of}
use Rattle.lookup_debug.proofs.BalanceLaws.{rows_balance}
use Rattle.lookup_debug.proofs.group_table.bus_table.Goals as goal

pub groups_of-requires : goal.groups_of-requires
groups_of-requires g c = λ n d lt. record { fit = c.requires.fit n d lt; heights = c.requires.heights n d lt }

pub row_of_group-requires-clause-fit : goal.row_of_group-requires-clause-fit
row_of_group-requires-clause-fit g c = λ n d lt. record { fit = c.requires.fit n d lt; heights = c.requires.heights n d lt }

pub loop-group-preserved : goal.loop-group-preserved
loop-group-preserved g c =
    let R = g.F.PrimeCharacteristicRing.ring in
    let eq = g.F.PartialEq.eq in
    let negative = is_negative g.F.PrimeCharacteristicRing.CHARACTERISTIC g.F.SignedField.number in
    let all = map traced_of c.args.instances.now in
    let made = c.in_ok-row_of_group.field-0 in
    ap (map row_of) c.in_ok-push.ensures.items
    ∙ map-append row_of c.loop-group.table.items (made ∷ [])
    ∙ (λ i. c.loop-group.invariant i ++ c.in_ok-row_of_group.ensures i ∷ [])
    ∙ sym (images_more (λ h. group_row R eq c.args.limit negative (group_of R eq all h)) c.deref-group-items.result.now c.loop-group.group-index c.group-item.result c.loop-group-test.true c.group-item.is)

pub returns-clause-rows : goal.returns-clause-rows
returns-clause-rows g c =
    let R = g.F.PrimeCharacteristicRing.ring in
    let eq = g.F.PartialEq.eq in
    let negative = is_negative g.F.PrimeCharacteristicRing.CHARACTERISTIC g.F.SignedField.number in
    let all = map traced_of c.args.instances.now in
    let items = c.deref-group-items.result.now in
    c.loop-group.invariant
    ∙ ap (map (λ h. group_row R eq c.args.limit negative (group_of R eq all h))) (take_all c.loop-group.group-index items c.loop-group-test.false)
    ∙ sym (map-map (group_row R eq c.args.limit negative) (group_of R eq all) items)
    ∙ ap (map (group_row R eq c.args.limit negative)) (ap (map (group_of R eq all)) c.deref-group-items.ensures.value ∙ c.in_ok-groups.ensures.0)

pub returns-clause-balance : goal.returns-clause-balance
returns-clause-balance g c =
    let R = g.F.PrimeCharacteristicRing.ring in
    let eq = g.F.PartialEq.eq in
    let negative = is_negative g.F.PrimeCharacteristicRing.CHARACTERISTIC g.F.SignedField.number in
    rows_balance g.F.PrimeCharacteristicRing.lawful eq g.met.F.PrimeCharacteristicRing.eq_is c.args.limit negative (groups R eq (map traced_of c.args.instances.now)) c.loop-group.table.items (returns-clause-rows g c)

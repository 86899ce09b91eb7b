use Rattle.std.proofs.Common.{◌∷◌, [], get_or, map, subst, sym, take, ap}
use Rattle.std.proofs.lemmas.List.{take_all}
use Rattle.std.proofs.lemmas.Option.{get_or_from_slice_get, slice_get-get_or}
use Rattle.lookup_debug.specs.Groups.{bus_group}
use Rattle.lookup_debug.specs.declared.named_group.GroupAt.TheVariants.{Bus}
use Rattle.lookup_debug.specs.internal.GroupList.{AddsGroups}
use Rattle.lookup_debug.proofs.GroupListLaws.{adds-more, adds-one, bus_next}
use Rattle.lookup_debug.proofs.named_group.push_buses.Goals as goal

pub loop-name-preserved : goal.loop-name-preserved
loop-name-preserved g c all =
    let R = g.F.PrimeCharacteristicRing.ring in
    let eq = g.F.PartialEq.eq in
    let names = c.args.names.now in
    let i = c.loop-name.name-index in
    let old = c.args.groups.now.items in
    let now = c.loop-name.groups.items in
    let after = c.push.new.self.items in
    let name = get_or names i (record { ref_ptr = (0, 0); now = [] }) in
    let there = slice_get-get_or names i (record { ref_ptr = (0, 0); now = [] }) c.loop-name-test.true in
    subst (AddsGroups R eq all old after) (sym (bus_next R eq all names i name c.loop-name-test.true (sym (get_or_from_slice_get names i name name there))))
    (adds-more R eq all old now after (map (bus_group R eq all) (map (λ n. n.now) (take i names))) (bus_group R eq all name.now ∷ []) (c.loop-name.invariant all)
    (adds-one R eq all now after (Bus name) c.in_ok-push.ensures.items tt))

pub returns : goal.returns
returns g c all =
    let R = g.F.PrimeCharacteristicRing.ring in
    let eq = g.F.PartialEq.eq in
    subst (AddsGroups R eq all c.args.groups.now.items c.loop-name.groups.items)
    (ap (λ ns. map (bus_group R eq all) (map (λ n. n.now) ns)) (take_all c.loop-name.name-index c.args.names.now c.loop-name-test.false))
    (c.loop-name.invariant all)

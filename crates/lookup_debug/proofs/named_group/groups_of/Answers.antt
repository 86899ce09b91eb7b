use Rattle.std.proofs.Common.{◌++◌, ℕ, List, ap, arith, map, subst, sym, ◌∙◌}
use Rattle.std.proofs.lemmas.List.{length-map}
use Rattle.std.specs.Borrow.{Bor}
use Rattle.lookup_debug.specs.Contributions.{IsTracedFitting, traced_of}
use Rattle.lookup_debug.specs.Groups.{bus_group}
use Rattle.lookup_debug.specs.declared.instance.LookupDebugInstance.{LookupDebugInstance}
use Rattle.lookup_debug.specs.internal.GroupList.{ListsGroups}
use Rattle.lookup_debug.proofs.GroupLaws.{first_air_groups, traced_at}
use Rattle.lookup_debug.proofs.GroupListLaws.{air_next, airs_all}
use Rattle.lookup_debug.proofs.named_group.groups_of.Goals as goal

pub push_locals-requires : goal.push_locals-requires
push_locals-requires g c =
    let item = c.index-instances-instance in
    subst (λ (i : LookupDebugInstance _). IsTracedFitting (traced_of i)) (sym item.is)
    (c.requires c.loop-instance.instance item.result c.loop-instance-test.true)

pub loop-instance-preserved : goal.loop-instance-preserved
loop-instance-preserved g c =
    let R = g.F.PrimeCharacteristicRing.ring in
    let eq = g.F.PartialEq.eq in
    let instances = c.args.instances.now in
    let all = map traced_of instances in
    let index = c.loop-instance.instance in
    let item = c.index-instances-instance in
    let there = traced_at instances index item.result c.loop-instance-test.true item.is in
    subst (ListsGroups R eq all c.push_locals.new.groups.items) (sym (air_next R eq all index (traced_of item.result) there))
    (c.in_ok-push_locals.ensures all (first_air_groups R eq all index) c.loop-instance.invariant)

pub returns : goal.returns
returns g c =
    let R = g.F.PrimeCharacteristicRing.ring in
    let eq = g.F.PartialEq.eq in
    let instances = c.args.instances.now in
    let all = map traced_of instances in
    let index = c.loop-instance.instance in
    let locals = airs_all R eq all index (omega (arith, c.loop-instance-test.false, length-map instances traced_of)) in
    let names = ap (map (λ (n : Bor (List ℕ)). n.now)) c.as_slice.ensures.value ∙ c.in_ok-names.ensures in
    subst (ListsGroups R eq all c.push_buses.new.groups.items) (λ i. locals i ++ map (bus_group R eq all) (names i))
    (c.in_ok-push_buses.ensures all (first_air_groups R eq all index) c.loop-instance.invariant)

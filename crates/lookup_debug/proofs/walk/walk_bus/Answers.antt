use Rattle.std.proofs.Common.{◌<◌, List, arith, length, map, subst, ℕ}
use Rattle.std.proofs.lemmas.List.{length-map}
use Rattle.std.specs.List.{filter, flat_map}
use Rattle.list_laws.proofs.Items.{numbered_all}
use Rattle.list_laws.proofs.Images.{mapped_at}
use Rattle.list_laws.proofs.Each.{All-at}
use Rattle.lookup_debug.specs.Contributions.{IsTracedFitting, Traced, traced_of}
use Rattle.lookup_debug.specs.Groups.{is_on, lookup_contributions, lookups_in}
use Rattle.lookup_debug.specs.declared.instance.LookupDebugInstance.{LookupDebugInstance}
use Rattle.lookup_debug.proofs.BusLaws.{step_instance}
use Rattle.lookup_debug.proofs.walk.walk_bus.Goals as goal

pub walk_bus_of-requires-clause-ready : goal.walk_bus_of-requires-clause-ready
walk_bus_of-requires-clause-ready g c =
    g.met.V.RowVisitor.composes.leaves _ _ _ c.loop-instance.invariant

pub walk_bus_of-requires-clause-fit : goal.walk_bus_of-requires-clause-fit
walk_bus_of-requires-clause-fit g c =
    All-at (λ (i : LookupDebugInstance _). IsTracedFitting (traced_of i)) c.args.instances.now c.loop-instance.instance c.index-instances-instance.result c.requires.fit c.loop-instance-test.true c.index-instances-instance.is

pub loop-instance-init : goal.loop-instance-init
loop-instance-init g c = g.met.V.RowVisitor.composes.rests c.args.visitor.now c.requires.ready

pub loop-instance-preserved : goal.loop-instance-preserved
loop-instance-preserved g c =
    let instances = c.args.instances.now in
    let ts = map traced_of instances in
    let i = c.loop-instance.instance in
    let t = traced_of c.index-instances-instance.result in
    let lt : i < length ts = omega (arith, c.loop-instance-test.true, length-map instances traced_of) in
    step_instance g.met.V.RowVisitor.composes g.F.PrimeCharacteristicRing.ring g.F.PartialEq.eq c.args.name.now ts i t lt (mapped_at traced_of instances i c.index-instances-instance.result c.loop-instance-test.true c.index-instances-instance.is)
    c.args.visitor.now c.loop-instance.visitor c.walk_bus_of.new.visitor c.loop-instance.invariant c.in_ok-walk_bus_of.ensures

pub returns : goal.returns
returns g c =
    let f = lookup_contributions g.F.PrimeCharacteristicRing.ring g.F.PartialEq.eq in
    let on = is_on c.args.name.now in
    let instances = c.args.instances.now in
    let ts = map traced_of instances in
    subst (λ (ns : List (ℕ × Traced _)). g.V.RowVisitor.changes c.args.visitor.now c.loop-instance.visitor (flat_map f (filter on (flat_map lookups_in ns)))) (numbered_all ts c.loop-instance.instance (omega (arith, c.loop-instance-test.false, length-map instances traced_of))) c.loop-instance.invariant

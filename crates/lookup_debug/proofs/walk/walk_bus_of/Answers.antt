use Rattle.std.proofs.Common.{◌≡◌, ◌∙◌, List, ap, arith, subst, sym}
use Rattle.std.proofs.lemmas.List.{take_all}
use Rattle.std.proofs.lemmas.Option.{slice_get-get_or}
use Rattle.std.specs.List.{filter, flat_map}
use Rattle.lookup_model.specs.Outline.{bus_of}
use Rattle.lookup_model.specs.declared.types.Lookup.{Lookup}
use Rattle.lookup_debug.specs.Contributions.{contributions_of, traced_of}
use Rattle.lookup_debug.specs.Groups.{LookupAt, is_on, lookup_contributions, lookups_in}
use Rattle.lookup_model.specs.Names.{is_named}
use Rattle.lookup_debug.proofs.BusLaws.{length-lookups_in, step_off, step_on}
use Rattle.lookup_debug.proofs.walk.walk_bus_of.Goals.{else-is_on_bus, then-is_on_bus+in_ok-walk_lookup}
use Rattle.lookup_debug.proofs.walk.walk_bus_of.Goals as goal

pub walk_lookup-requires-clause-ready : goal.walk_lookup-requires-clause-ready
walk_lookup-requires-clause-ready g c = g.met.V.RowVisitor.composes.leaves _ _ _ c.loop-index.invariant

pub walk_lookup-requires-clause-at_index : goal.walk_lookup-requires-clause-at_index
walk_lookup-requires-clause-at_index g c =
    let ls = c.args.traced.now.lookups.now in slice_get-get_or ls c.loop-index.index c.index-traced-index.result c.loop-index-test.true

pub loop-index-init : goal.loop-index-init
loop-index-init g c = g.met.V.RowVisitor.composes.rests c.args.visitor.now c.requires.ready

pub loop-index-preserved : goal.loop-index-preserved
loop-index-preserved g c =
    let R = g.F.PrimeCharacteristicRing.ring in
    let eq = g.F.PartialEq.eq in
    let composes = g.met.V.RowVisitor.composes in
    let name = c.args.name.now in
    let t = traced_of c.args.traced.now in
    let n = c.args.instance in
    let j = c.loop-index.index in
    let l = c.index-traced-index.result in
    let is = c.index-traced-index.is in
    let start = c.args.visitor.now in
    let so_far = c.loop-index.visitor in
    let after = c.if-is_on_bus.visitor in
    let named : is_named name (bus_of l.kind) ≡ c.is_on_bus.result = ap (λ (k : Lookup _). is_named name (bus_of k.kind)) is ∙ sym c.is_on_bus.ensures in
    elim c.if-is_on_bus.branch [
      | then-is_on_bus+in_ok-walk_lookup w ↦
          let made = w.walk_lookup.new.visitor in
          step_on composes R eq name n t j l c.loop-index-test.true is start so_far c.loop-index.invariant made after w.visitor-is (named ∙ w.if-is_on_bus.true)
          (subst (λ (k : Lookup _). g.V.RowVisitor.changes so_far made (contributions_of R eq n j t k)) (sym is) w.in_ok-walk_lookup.ensures)
      | else-is_on_bus w ↦
          step_off composes R eq name n t j l c.loop-index-test.true is start so_far c.loop-index.invariant after w.visitor-is (named ∙ w.if-is_on_bus.false)
    ]

pub returns : goal.returns
returns g c =
    let f = lookup_contributions g.F.PrimeCharacteristicRing.ring g.F.PartialEq.eq in
    let on = is_on c.args.name.now in
    let t = traced_of c.args.traced.now in
    let ps = lookups_in (c.args.instance, t) in
    subst (λ (qs : List (LookupAt _)). g.V.RowVisitor.changes c.args.visitor.now c.loop-index.visitor (flat_map f (filter on qs))) (take_all c.loop-index.index ps (omega (arith, c.loop-index-test.false, length-lookups_in c.args.instance t))) c.loop-index.invariant

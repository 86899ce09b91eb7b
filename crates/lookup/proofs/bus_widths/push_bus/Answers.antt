use Rattle.std.proofs.Common.{◌++◌, ap, arith, length, map, sym, take_all, ◌∙◌}
use Rattle.std.proofs.lemmas.List.Folds.{flat_map-map}
use Rattle.std.specs.List.{flat_map}
use Rattle.list_laws.proofs.Images.{map-map}
use Rattle.list_laws.proofs.Parts.{map-flat_map}
use Rattle.lookup_model.specs.Outline.{fields_of}
use Rattle.lookup.specs.BusWidths.{widths_of}
use Rattle.lookup.specs.NamedWidths.{seen_widths}
use Rattle.lookup.proofs.NamedWidthLaws.{parts_more}
use Rattle.lookup.proofs.bus_widths.push_bus.Goals as goal

pub loop-lookup-preserved : goal.loop-lookup-preserved
loop-lookup-preserved g c =
    let name = c.args.name.now in
    let tuples = c.lookup-item.result.now.elements.items in
    parts_more (λ r. map (λ w. (name, w)) (widths_of (fields_of r.now))) c.args.members.now c.loop-lookup.lookup-index c.lookup-item.result _ _ _ c.loop-lookup-test.true c.lookup-item.is c.loop-lookup.invariant
    (c.in_ok-push_tuples.ensures
    ∙ ap (λ l. seen_widths c.loop-lookup.widths.items ++ l)
    (ap (map (λ tuple. (name, length tuple.items))) c.as_slice.ensures.value
    ∙ sym (ap (map (λ w. (name, w))) (map-map length (λ tuple. tuple.items) tuples) ∙ map-map (λ w. (name, w)) (λ tuple. length tuple.items) tuples)))

pub returns : goal.returns
returns g c =
    c.loop-lookup.invariant
    ∙ ap (λ l. seen_widths c.args.widths.now.items ++ l)
    (ap (flat_map (λ r. map (λ w. (c.args.name.now, w)) (widths_of (fields_of r.now)))) (take_all c.loop-lookup.lookup-index c.args.members.now (omega arith))
    ∙ sym (ap (map (λ w. (c.args.name.now, w))) (flat_map-map widths_of (λ r. fields_of r.now) c.args.members.now) ∙ map-flat_map (λ w. (c.args.name.now, w)) (λ r. widths_of (fields_of r.now)) c.args.members.now))

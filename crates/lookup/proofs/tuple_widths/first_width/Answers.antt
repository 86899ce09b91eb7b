use Rattle.std.proofs.lemmas.List.{take_all}
use Rattle.std.specs.List.{flat_map}
use Rattle.std.proofs.Common.{map, ◌≡◌, Some, length, option_map, slice_get, ap, sym, ◌∙◌, arith}
use Rattle.std.proofs.lemmas.Option.{slice_get-map}
use Rattle.list_laws.proofs.Images.{map-map}
use Rattle.lookup_model.specs.Outline.{fields_of}
use Rattle.lookup.specs.BusWidths.{widths_of}
use Rattle.lookup.proofs.WidthLaws.{first_in}
use Rattle.lookup.proofs.tuple_widths.first_width.Goals as goal

pub returns-in-Some : goal.returns-in-Some
returns-in-Some g c =
    let width : c.len.result ≡ length c.in-Some.tuple.now.items = omega (arith, c.len.ensures, c.in-Some.tuple.now.ok.0) in
    let tuples = c.lookup-item.result.now.elements.items in
    ap Some width ∙ sym (first_in widths_of (λ r. fields_of r.now) c.args.members.now c.loop-lookup.lookup-index c.lookup-item.result c.loop-lookup-test.true c.lookup-item.is (length c.in-Some.tuple.now.items) c.loop-lookup.invariant
    (ap (λ t. slice_get t 0) (map-map length (λ v. v.items) tuples) ∙ slice_get-map (λ v. length v.items) tuples 0 ∙ ap (option_map (λ v. length v.items)) (ap (λ t. slice_get t 0) (sym c.deref.ensures.value) ∙ sym c.in-Some.ensures.value)))

pub returns : goal.returns
returns g c = ap (λ t. slice_get t 0) (sym c.loop-lookup.invariant ∙ ap (λ t. flat_map widths_of (map (λ r. fields_of r.now) t)) (take_all c.loop-lookup.lookup-index c.args.members.now (omega (arith, c.loop-lookup-test.false))))

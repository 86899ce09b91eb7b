use Rattle.std.proofs.Common.{find, length, map, ap, sym, ◌∙◌, arith}
use Rattle.std.proofs.lemmas.List.{take_all}
use Rattle.std.specs.List.{flat_map}
use Rattle.list_laws.proofs.Images.{map-map}
use Rattle.lookup_model.specs.Outline.{fields_of}
use Rattle.lookup.specs.BusWidths.{widths_of}
use Rattle.lookup.proofs.WidthLaws.{all_same, found_in, has_other, is_other, passed_in}
use Rattle.lookup.proofs.tuple_widths.two_widths.Goals as goal

pub returns-in-Some : goal.returns-in-Some
returns-in-Some g c =
    let tuples = c.lookup-item.result.now.elements.items in
    has_other c.in_ok-width.width c.in-Some.other (flat_map widths_of (map (λ r. fields_of r.now) c.args.members.now)) (sym c.in_ok-width.ensures)
    (found_in widths_of (λ r. fields_of r.now) c.args.members.now c.loop-lookup.lookup-index c.lookup-item.result c.loop-lookup-test.true c.lookup-item.is (is_other c.in_ok-width.width) c.in-Some.other c.loop-lookup.invariant
    (ap (find (is_other c.in_ok-width.width)) (map-map length (λ v. v.items) tuples ∙ ap (map (λ v. length v.items)) (sym c.deref.ensures.value)) ∙ sym c.in-Some.ensures))

pub loop-lookup-preserved : goal.loop-lookup-preserved
loop-lookup-preserved g c =
    let tuples = c.lookup-item.result.now.elements.items in
    passed_in widths_of (λ r. fields_of r.now) c.args.members.now c.loop-lookup.lookup-index c.lookup-item.result c.loop-lookup-test.true c.lookup-item.is (is_other c.in_ok-width.width) c.loop-lookup.invariant
    (ap (find (is_other c.in_ok-width.width)) (map-map length (λ v. v.items) tuples ∙ ap (map (λ v. length v.items)) (sym c.deref.ensures.value)) ∙ sym c.in-None.ensures)

pub returns : goal.returns
returns g c = (
  c.in_ok-width.width,
  all_same c.in_ok-width.width (flat_map widths_of (map (λ r. fields_of r.now) c.args.members.now)) (ap (λ t. find (is_other c.in_ok-width.width) (flat_map widths_of (map (λ r. fields_of r.now) t))) (sym (take_all c.loop-lookup.lookup-index c.args.members.now (omega (arith, c.loop-lookup-test.false)))) ∙ c.loop-lookup.invariant),
)

use Rattle.std.proofs.Common.{find, length, map, ap, sym, ◌∙◌, arith}
use Rattle.std.proofs.lemmas.List.{take_all}
use Rattle.std.specs.List.{flat_map}
use Rattle.list_laws.proofs.Images.{map-map}
use Rattle.lookup_model.specs.Outline.{fields_of}
use Rattle.lookup.specs.BusWidths.{widths_of}
use Rattle.lookup.proofs.WidthLaws.{all_same, is_other, passed_in}
use Rattle.lookup.proofs.tuple_widths.have_one_width.Goals as goal

pub loop-lookup-preserved : goal.loop-lookup-preserved
loop-lookup-preserved g c =
    let tuples = c.lookup-item.result.elements.items in
    passed_in widths_of fields_of c.args.lookups.now c.loop-lookup.lookup-index c.lookup-item.result c.loop-lookup-test.true c.lookup-item.is (is_other c.len-width.result) c.loop-lookup.invariant
    (ap (find (is_other c.len-width.result)) (map-map length (λ v. v.items) tuples ∙ ap (map (λ v. length v.items)) (sym c.deref-in-loop-lookup.ensures.value)) ∙ sym c.in-None.ensures)

pub returns : goal.returns
returns g c = λ yes. (
  c.len-width.result,
  all_same c.len-width.result (flat_map widths_of (map fields_of c.args.lookups.now)) (ap (λ t. find (is_other c.len-width.result) (flat_map widths_of (map fields_of t))) (sym (take_all c.loop-lookup.lookup-index c.args.lookups.now (omega (arith, c.loop-lookup-test.false)))) ∙ c.loop-lookup.invariant),
)

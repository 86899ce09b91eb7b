use Rattle.std.proofs.Common.{length, ◌≡◌, ◌<◌, ℕ, List, map, All, ap, inl, inr, refl, subst, ◌∙◌, arith, None}
use Rattle.std.proofs.lemmas.List.{nil_from_length}
use Rattle.std.proofs.lemmas.Result.{err_from_is_err_and}
use Rattle.std.specs.List.{sum_by}
use Rattle.std.specs.Vec.Iter.{into_iter_items}
use Rattle.list_laws.proofs.Images.{all_passed}
use Rattle.lookup_record.specs.Pushed.{tuple_of}
use Rattle.lookup_record.specs.Records.{local_of}
use Rattle.lookup_model.specs.Weight.{weight_bound}
use Rattle.lookup.specs.TupleWidths.{HasOtherWidth}
use Rattle.lookup.proofs.ExtractionLaws.{same_lengths, same_widths, widths_of_tuples}
use Rattle.lookup.proofs.extraction.local_lookup.Goals as goal

pub loop-fields-init : goal.loop-fields-init
loop-fields-init g c = rw (c.new-elements.ensures.items, c.new-multiplicities.ensures.items, c.into_iter-fields-iterator.ensures.into_iter_gives.0)
    (refl, refl, omega arith, omega arith)

pub returns-in_err-assert_uniform_tuple_width : goal.returns-in_err-assert_uniform_tuple_width
returns-in_err-assert_uniform_tuple_width g c =
    let left = map tuple_of (into_iter_items c.loop-fields.fields-iterator) in
    let none = ap (map tuple_of) (nil_from_length (into_iter_items c.loop-fields.fields-iterator) (omega (arith, c.in-None.ensures.steps.0, c.loop-fields.fields-iterator.rest.ok.0))) in
    let tuples = local_of c.args.interaction in
    let invariant = c.loop-fields.invariant in
    let elements = all_passed (λ t. t.fields) _ _ left none invariant.0 in
    let weight : sum_by (λ t. t.weight) tuples < weight_bound =
    omega (arith, invariant.2, invariant.3, ap (λ ts. sum_by (λ t. t.weight) ts) none) in
    let p = err_from_is_err_and c.from_residual-in_err-assert_uniform_tuple_width.result c.from_residual-in_err-assert_uniform_tuple_width.ensures.1 in
    rw (p.1, p.2) (elim c.in_err-assert_uniform_tuple_width.ensures [
      | inl memory ↦ inl memory
      | inr w ↦ inr (inr (
        weight,
        record {
          width = w.width;
          other = w.other;
          differ = subst (λ (ws : List ℕ). HasOtherWidth ws w.width w.other) (ap (map (λ tuple. length tuple.items)) c.deref.ensures.value ∙ same_widths (λ tuple. tuple.items) c.loop-fields.elements.items tuples elements) w.differ;
          refusal = w.refusal;
        },
      ))
    ])

pub returns : goal.returns
returns g c =
    let left = map tuple_of (into_iter_items c.loop-fields.fields-iterator) in
    let none = ap (map tuple_of) (nil_from_length (into_iter_items c.loop-fields.fields-iterator) (omega (arith, c.in-None.ensures.steps.0, c.loop-fields.fields-iterator.rest.ok.0))) in
    let tuples = local_of c.args.interaction in
    let invariant = c.loop-fields.invariant in
    let elements = all_passed (λ t. t.fields) _ _ left none invariant.0 in
    let multiplicities = all_passed (λ t. t.count) _ _ left none invariant.1 in
    let weight : c.loop-fields.count_weight ≡ sum_by (λ t. t.weight) tuples =
    omega (arith, invariant.3, ap (λ ts. sum_by (λ t. t.weight) ts) none) in
    let width = c.in_ok-assert_uniform_tuple_width.field-0 in (
      λ i. record {
        bus = None;
        elements = elements i;
        multiplicities = multiplicities i;
        count_weight = weight i;
        column = c.args.column;
        flags = None;
      },
      record {
        weight = omega (arith, invariant.2, weight);
        width = width;
        widths = widths_of_tuples (λ tuple. tuple.items) c.loop-fields.elements.items tuples width elements (subst (λ (vs : List _). All (λ v. length v.items ≡ width) vs) c.deref.ensures.value c.in_ok-assert_uniform_tuple_width.ensures.0);
      },
      (
        refl,
        record {
          multiplicities = same_lengths (λ tuple. tuple.items) (λ t. t.fields) (λ t. t.count) c.loop-fields.elements.items c.loop-fields.multiplicities.items tuples elements multiplicities;
          flags = λ x e. absurd (cc e);
        },
      ),
    )

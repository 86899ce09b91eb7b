use Rattle.std.proofs.Common.{◌≡◌, Some, length, map, slice_get, ap, inl, inr, sym, ◌∙◌, arith}
use Rattle.std.proofs.lemmas.List.Elements.{All-from_recursion}
use Rattle.list_laws.proofs.Each.{all_of_map}
use Rattle.list_laws.proofs.Images.{map_at}
use Rattle.lookup.proofs.WidthLaws.{all_same, has_other}
use Rattle.lookup.proofs.tuple_widths.assert_uniform_tuple_width.Goals as goal

pub returns-in-None : goal.returns-in-None
returns-in-None g c =
    let tuples = c.args.tuples.now in
    let width = c.len-width.result in
    let at_first : slice_get tuples 0 ≡ Some c.in-Some.first.now = sym c.in-Some.ensures.value in (
      All-from_recursion (λ t. length t.items ≡ width) tuples (all_of_map (λ w. w ≡ width) (λ t. length t.items) tuples (all_same width (map (λ t. length t.items) tuples) (sym c.in-None.ensures))),
      λ nil. absurd (cc (sym (ap (λ t. slice_get t 0) nil) ∙ at_first)),
    )

pub returns-in-Some-other_width : goal.returns-in-Some-other_width
returns-in-Some-other_width g c =
    let tuples = c.args.tuples.now in
    let width : length c.in-Some.first.now.items ≡ c.len-width.result = omega (arith, c.len-width.ensures, c.in-Some.first.now.ok.0) in
    let first = map_at (λ t. length t.items) tuples 0 c.in-Some.first.now (sym c.in-Some.ensures.value) ∙ ap Some width in
    elim c.tuple_widths.ensures [
      | inl memory ↦ inl memory
      | inr is ↦ inr (record {
        width = c.len-width.result;
        other = c.in-Some-other_width.other;
        differ = has_other c.len-width.result c.in-Some-other_width.other (map (λ t. length t.items) tuples) first (sym c.in-Some-other_width.ensures);
        refusal = is;
      })
    ]

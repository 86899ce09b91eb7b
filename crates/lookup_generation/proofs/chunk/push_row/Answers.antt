use Rattle.std.proofs.Common.{◌≡◌, ◌++◌, ◌+◌, ◌∷◌, ℕ, [], append_assoc, map, slice_index_or, sym, ap, ◌∙◌, arith}
use Rattle.std.proofs.lemmas.List.{get_or_read, map_push}
use Rattle.std.specs.List.{range_with_len}
use Rattle.list_laws.proofs.Items.{range_more}
use Rattle.field.specs.Sums.{sum_in}
use Rattle.lookup_model.proofs.SumLaws.{sum_in-push}
use Rattle.matrix.specs.Matrix.{row}
use Rattle.lookup_generation.proofs.chunk.push_row.Goals as goal

pub loop-lookup-preserved : goal.loop-lookup-preserved
loop-lookup-preserved g c =
    let S = g.K.PrimeCharacteristicRing.ring in
    let laws = g.K.PrimeCharacteristicRing.lawful in
    let i = c.loop-lookup.lookup in
    let cell = λ (r : ℕ). slice_index_or (row c.args.by_lookup.now r) c.args.index S.zero in
    let so_far = map cell (range_with_len 0 i) in
    let x = c.index-row_slice-index.result in
    let there : x ≡ cell i = get_or_read c.row_slice.result.now c.args.index x (omega (arith, c.row_slice.ensures.len, c.requires.row)) c.index-row_slice-index.is S.zero ∙ ap (λ xs. slice_index_or xs c.args.index S.zero) c.row_slice.ensures.row in
    let zero_more : i ≡ 0 + i = omega arith in
    let more : so_far ++ x ∷ [] ≡ map cell (range_with_len 0 (i + 1)) =
    (λ k. so_far ++ there k ∷ []) ∙ sym (map_push cell (range_with_len 0 i) i) ∙ ap (map cell) (ap (λ n. range_with_len 0 i ++ n ∷ []) zero_more ∙ sym (range_more 0 i)) in (
      c.in_ok-push-2.ensures.items ∙ ap (λ t. t ++ x ∷ []) c.loop-lookup.invariant.0
          ∙ append_assoc c.args.made.now.cells.items (c.args.made.now.accumulator ∷ so_far) (x ∷ []) ∙ ap (λ t. c.args.made.now.cells.items ++ c.args.made.now.accumulator ∷ t) more,
      g.met.K.PrimeCharacteristicRing.add_is _ _ _ c.add-next.ensures ∙ ap (λ t. S.add t x) c.loop-lookup.invariant.1
          ∙ laws.add_assoc c.args.made.now.accumulator (sum_in S so_far) x ∙ ap (S.add c.args.made.now.accumulator) (sym (sum_in-push laws so_far x) ∙ ap (sum_in S) more),
    )

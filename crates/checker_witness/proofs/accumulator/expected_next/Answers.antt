use Rattle.std.proofs.Common.{◌+◌, ◌%◌, ◌<◌, cond, slice_index_or, sym, ap, ◌∙◌, arith}
use Rattle.std.proofs.Math.Nat.{mod-eq_of_lt}
use Rattle.std.proofs.lemmas.Bool.{ne_eqb}
use Rattle.std.proofs.lemmas.List.{get_or_read}
use Rattle.matrix.specs.Matrix.{height, row}
use Rattle.checker_witness.proofs.accumulator.expected_next.Goals as goal

pub returns-else-row-num_rows : goal.returns-else-row-num_rows
returns-else-row-num_rows g c =
    let zero = g.EF.PrimeCharacteristicRing.ring.zero in
    let aux = c.args.aux.now in
    let h = height aux in
    let inner : c.args.row + 1 < h = omega (arith, c.if-row-num_rows.false, c.requires.rows, c.requires.row_exists) in
    get_or_read c.row_slice.result.now 0 c.index-row_slice-0.result (omega (arith, c.row_slice.ensures.len, c.requires.accumulator)) c.index-row_slice-0.is zero
    ∙ ap (λ xs. slice_index_or xs 0 zero) (c.row_slice.ensures.row ∙ ap (row aux) (sym (mod-eq_of_lt inner)))
    ∙ ap (λ b. cond b c.args.terminal (slice_index_or (row aux ((c.args.row + 1) % h)) 0 zero)) (sym (ne_eqb (c.args.row + 1) h (λ e. absurd (omega (arith, e, inner)))))

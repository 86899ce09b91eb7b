use Rattle.std.proofs.Common.{ℕ, List, ◌++◌, ap, decimal, string_bytes, ◌∙◌}
use Rattle.matrix.specs.Matrix.{row}
use Rattle.language_witness.specs.Lines.{row_line}
use Rattle.language_witness.proofs.LineLaws.{appended_line}
use Rattle.language_witness.proofs.writing.push_air.Goals as goal

pub loop-row-preserved : goal.loop-row-preserved
loop-row-preserved g c =
    let line : List g.row.EF.Denot → List ℕ = row_line g.EF.Field.text in
    appended_line (λ r. line (row c.args.trace.now r)) c.loop-row.row _ _ (decimal c.args.air) _ c.loop-row.invariant
    (c.in_ok-push_row.ensures ∙ ap (λ cells. string_bytes c.loop-row.text ++ line cells) c.row_slice.ensures.row)

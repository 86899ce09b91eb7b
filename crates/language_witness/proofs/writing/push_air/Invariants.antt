use Rattle.std.proofs.Common.{◌≡◌, ◌++◌, codes, decimal, string_bytes}
use Rattle.std.specs.List.{flat_map, range_with_len}
use Rattle.matrix.specs.Matrix.{row}
use Rattle.language_witness.specs.Lines.{row_line}
use Rattle.language_witness.proofs.writing.push_air.Given as goal

abbrev pub invariant-loop-row : goal.invariant-loop-row
invariant-loop-row g l =
    string_bytes l.text ≡ string_bytes l.fn.text ++ (codes "air " ++ (decimal l.fn.air ++ (codes "\n" ++ flat_map (λ r. row_line g.EF.Field.text (row l.trace r)) (range_with_len 0 l.row))))

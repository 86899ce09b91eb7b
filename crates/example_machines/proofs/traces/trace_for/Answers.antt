use Rattle.std.proofs.Common.{◌≡◌, ◌++◌, ◌+◌, ◌*◌, ap, arith, length, sym, ◌∙◌}
use Rattle.std.specs.List.{slice_range}
use Rattle.list_laws.proofs.Parts.{flat_more, length_rows}
use Rattle.matrix.specs.Matrix.{row}
use Rattle.example_machines.specs.Machines.{machine_air_cells, width_of}
use Rattle.example_machines.proofs.BatchLaws.{length_cells, shaped, wide}
use Rattle.example_machines.proofs.traces.trace_for.Goals as goal

pub loop-row-preserved : goal.loop-row-preserved
loop-row-preserved g c =
    let part : slice_range c.row_slice.result.now c.first_column-first.result (c.first_column-first.result + c.columns.result) ≡ machine_air_cells c.args.air (row c.args.input.now c.loop-row.row) =
    λ i. slice_range (c.row_slice.ensures.row i) (c.first_column-first.ensures i) (c.first_column-first.ensures i + c.columns.ensures i) in
    c.in_ok-extend_from_slice.ensures.items ∙ (λ i. c.loop-row.invariant i ++ part i) ∙ sym (flat_more (λ r. machine_air_cells c.args.air (row c.args.input.now r)) c.loop-row.row)

pub new-requires : goal.new-requires
new-requires g c =
    let long : length c.loop-row.values.items ≡ c.loop-row.row * width_of c.args.air =
    ap length c.loop-row.invariant
    ∙ length_rows (λ r. machine_air_cells c.args.air (row c.args.input.now r)) (width_of c.args.air) 0 c.loop-row.row
    (λ r lt. length_cells c.args.air c.args.input.now r c.requires (omega (arith, lt, c.height-row-end.ensures.height))) in
    rw c.columns-2.ensures (shaped c.loop-row.values.items (width_of c.args.air) c.loop-row.row (wide c.args.air) long)

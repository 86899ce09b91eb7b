use Rattle.std.proofs.Common.{◌≡◌, ◌∙◌, ◌<◌, ◌*◌, [], length, arith, ap, set}
use Rattle.std.proofs.lemmas.List.Elements.{All-from_get_or}
use Rattle.matrix.specs.Matrix.{height}
use Rattle.c_calls.specs.Shift.{shift_rows}
use Rattle.c_calls.proofs.CellLaws.{all_shifted, cell_is_group, cell_there, cells_more, none_shifted, ring_of_four, row_count_is}
use Rattle.c_calls.proofs.shift.shift_cells.Goals.{in-Some, in_default}
use Rattle.c_calls.proofs.shift.shift_cells.Goals as goal

pub loop-row-init : goal.loop-row-init
loop-row-init g c =
    none_shifted g.K.MontyParameters.positive (ring_of_four g.K.MontyParameters.positive g.K.QuarticParameters.W) c.args.offset c.args.width c.args.cells.now
    (All-from_get_or (λ g. length g ≡ 4) c.args.cells.now [] c.told-cells) c.requires.below

pub bounds-cells-at : goal.bounds-cells-at
bounds-cells-at g c =
    let high = row_count_is g.K.MontyParameters.positive c.args.cells.now c.args.width c.row_count-row-end.result c.row_count-row-end.ensures in
    cell_there g.K.MontyParameters.positive (ring_of_four g.K.MontyParameters.positive g.K.QuarticParameters.W) c.args.offset c.args.width c.args.cells.now c.loop-row.cells c.loop-row.row c.requires.shaped (omega (arith, c.loop-row-test.true, high)) c.loop-row.auto.cells

pub loop-row-preserved : goal.loop-row-preserved
loop-row-preserved g c =
    let high = row_count_is g.K.MontyParameters.positive c.args.cells.now c.args.width c.row_count-row-end.result c.row_count-row-end.ensures in
    let lt : c.loop-row.row < height (shift_rows g.K.MontyParameters.positive c.args.cells.now c.args.width) = omega (arith, c.loop-row-test.true, high) in
    let many : length c.loop-row.cells ≡ length c.args.cells.now = c.loop-row.auto.cells in
    let room = cell_there g.K.MontyParameters.positive (ring_of_four g.K.MontyParameters.positive g.K.QuarticParameters.W) c.args.offset c.args.width c.args.cells.now c.loop-row.cells c.loop-row.row c.requires.shaped lt many in
    elim c.match-extension.branch [
      | in-Some w ↦ cells_more g.K.MontyParameters.positive (ring_of_four g.K.MontyParameters.positive g.K.QuarticParameters.W) c.args.offset c.args.width c.args.cells.now c.loop-row.cells c.match-extension.cells c.loop-row.row w.in-Some.x w.add.result c.requires.shaped lt room w.in-Some.ensures.0 w.add.ensures
          (w.cells-is ∙ ap (λ ns. set c.loop-row.cells (c.loop-row.row * c.args.width) ns) w.element_numbers.ensures) c.loop-row.invariant
      | in_default w ↦ absurd (w.in_default.ensures (cell_is_group g.K.MontyParameters.positive (ring_of_four g.K.MontyParameters.positive g.K.QuarticParameters.W) c.args.offset c.args.width c.args.cells.now c.loop-row.cells c.loop-row.row (c.loop-row.row * c.args.width) room c.loop-row.invariant))
    ]

pub returns : goal.returns
returns g c =
    let high = row_count_is g.K.MontyParameters.positive c.args.cells.now c.args.width c.row_count-row-end.result c.row_count-row-end.ensures in
    all_shifted g.K.MontyParameters.positive (ring_of_four g.K.MontyParameters.positive g.K.QuarticParameters.W) c.args.offset c.args.width c.args.cells.now c.loop-row.cells c.loop-row.row c.requires.shaped (omega (arith, c.loop-row-test.false, c.loop-row.auto.row-end, high)) c.loop-row.invariant

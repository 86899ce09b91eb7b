use Rattle.c_calls.proofs.CellLaws.{AreCellsShifted, ring_of_four}
use Rattle.c_calls.proofs.shift.shift_cells.Given as goal

abbrev pub invariant-loop-row : goal.invariant-loop-row
invariant-loop-row g l = AreCellsShifted g.K.MontyParameters.positive (ring_of_four g.K.MontyParameters.positive g.K.QuarticParameters.W) l.offset l.fn.width l.initial.cells l.row l.cells

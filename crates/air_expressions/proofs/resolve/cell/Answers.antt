use Rattle.std.proofs.Common.{arith}
use Rattle.air_expressions.proofs.Cells.{row_at_other}
use Rattle.air_expressions.proofs.resolve.cell.Goals as goal

pub offset_bounds-current_slice-index : goal.offset_bounds-current_slice-index
offset_bounds-current_slice-index g c =
    let within = rw (c.if-offset-eq0.true, ← c.current_slice.ensures) at c.requires.within in omega arith

pub bounds-current_slice-index : goal.bounds-current_slice-index
bounds-current_slice-index g c = rw c.current_slice.ensures (rw c.if-offset-eq0.true at c.requires.within)

pub offset_bounds-next_slice-index : goal.offset_bounds-next_slice-index
offset_bounds-next_slice-index g c =
    let within = rw (row_at_other _ _ _ _ c.if-offset-eq0.false c.requires.within, ← c.next_slice.ensures) at c.requires.within in
    omega arith

pub bounds-next_slice-index : goal.bounds-next_slice-index
bounds-next_slice-index g c =
    rw c.next_slice.ensures (rw (row_at_other _ _ _ _ c.if-offset-eq0.false c.requires.within) at c.requires.within)

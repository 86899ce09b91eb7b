use Rattle.std.proofs.Common.{◌≡◌, ◌+◌, ◌++◌, length, map, slice_index_or, take}
use Rattle.matrix.specs.Matrix.{row}
use Rattle.lookup_columns.proofs.column.push_cells.Given as goal

abbrev pub invariant-loop-i : goal.invariant-loop-i
invariant-loop-i g l =
    let cells = map (λ r. slice_index_or (row l.trace r) l.index g.F.PrimeCharacteristicRing.ring.zero) in
    (length l.to.items ≡ l.first + length l.rows)
    × (take (l.first + l.i) l.to.items ≡ l.fn.to.items ++ cells (take l.i l.rows))

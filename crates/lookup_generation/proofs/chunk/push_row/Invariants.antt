use Rattle.std.proofs.Common.{◌≡◌, ◌++◌, ◌∷◌, map, slice_index_or}
use Rattle.std.specs.List.{range_with_len}
use Rattle.field.specs.Sums.{sum_in}
use Rattle.matrix.specs.Matrix.{row}
use Rattle.lookup_generation.proofs.chunk.push_row.Given as goal

abbrev pub invariant-loop-lookup : goal.invariant-loop-lookup
invariant-loop-lookup g l =
    let S = g.K.PrimeCharacteristicRing.ring in
    let so_far = map (λ r. slice_index_or (row l.by_lookup r) l.index S.zero) (range_with_len 0 l.lookup) in
    (l.made.cells.items ≡ l.fn.made.cells.items ++ l.fn.made.accumulator ∷ so_far) × (l.next ≡ S.add l.fn.made.accumulator (sum_in S so_far))

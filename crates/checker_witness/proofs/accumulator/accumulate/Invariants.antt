use Rattle.std.proofs.Common.{◌≡◌, ◌+◌, map, slice_index_or, take}
use Rattle.field.specs.Sums.{sum_in}
use Rattle.checker_witness.proofs.accumulator.accumulate.Given as goal

abbrev pub invariant-loop-lookup : goal.invariant-loop-lookup
invariant-loop-lookup g l =
    let S = g.EF.PrimeCharacteristicRing.ring in
    l.sum ≡ S.add (slice_index_or l.cells 0 S.zero) (sum_in S (map (λ lookup. slice_index_or l.cells (lookup.column + 1) S.zero) (take l.lookup-index l.lookups)))

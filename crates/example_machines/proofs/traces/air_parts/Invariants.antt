use Rattle.std.proofs.Common.{◌≡◌, ◌++◌, map}
use Rattle.std.specs.Vec.Iter.{into_iter_items}
use Rattle.matrix.specs.Matrix.{height}
use Rattle.example_machines.proofs.traces.air_parts.Given as goal

abbrev pub invariant-loop-trace : goal.invariant-loop-trace
invariant-loop-trace g l =
    let rest = into_iter_items l.trace-iterator in
    let all = l.fn.traces.items in
    (l.lookups.items ++ map (λ t. t.lookups) rest ≡ map (λ t. t.lookups) all)
    × (l.mains.items ++ map (λ t. t.main) rest ≡ map (λ t. t.main) all)
    × (l.heights.items ++ map (λ t. height t.main) rest ≡ map (λ t. height t.main) all)

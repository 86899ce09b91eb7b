use Rattle.std.proofs.Common.{◌≡◌, map, take}
use Rattle.air_expressions.specs.Tree.{tree_of}
use Rattle.lookup_model.proofs.copies.copy_tuples.Given as goal

abbrev pub invariant-loop-tuple : goal.invariant-loop-tuple
invariant-loop-tuple g l =
    map (λ tuple. map tree_of tuple.items) l.copies.items ≡ map (λ tuple. map tree_of tuple.items) (take l.tuple-index l.tuples)

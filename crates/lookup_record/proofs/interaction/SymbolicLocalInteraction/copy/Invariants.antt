use Rattle.std.proofs.Common.{◌≡◌, map, take}
use Rattle.air_expressions.specs.Tree.{tree_of}
use Rattle.lookup_record.specs.Interaction.{map_tuple}
use Rattle.lookup_record.specs.Pushed.{tuple_of}
use Rattle.lookup_record.proofs.interaction.SymbolicLocalInteraction.copy.Given as goal

abbrev pub invariant-loop-tuple : goal.invariant-loop-tuple
invariant-loop-tuple g l =
    map (λ t. map_tuple tree_of (tuple_of t)) l.tuples.items ≡ map (λ t. map_tuple tree_of (tuple_of t)) (take l.tuple-index l.tuple-items)

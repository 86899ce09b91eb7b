use Rattle.std.proofs.Common.{◌≡◌, map, take}
use Rattle.air_expressions.specs.ExtTree.{ext_tree_of}
use Rattle.lookup_record.proofs.symbolic.InteractionSymbolicBuilder.extension_constraints.Given as goal

abbrev pub invariant-loop-constraint : goal.invariant-loop-constraint
invariant-loop-constraint g l = map ext_tree_of l.copies.items ≡ map ext_tree_of (take l.constraint-index l.constraint-items)

use Rattle.std.proofs.Common.{◌++◌, map}
use Rattle.std.specs.Vec.Iter.{into_iter_items}
use Rattle.air_expressions.specs.Tree.{tree_of}
use Rattle.c_tables.specs.Nodes.{NodesAreTrees}
use Rattle.c_tables.proofs.StackLaws.{trees}
use Rattle.c_tables.proofs.reader.read_expressions.Given as goal

abbrev pub invariant-loop-part : goal.invariant-loop-part
invariant-loop-part g l = NodesAreTrees (map tree_of l.expressions.items ++ trees (into_iter_items l.part-iterator)) l.fn.nodes

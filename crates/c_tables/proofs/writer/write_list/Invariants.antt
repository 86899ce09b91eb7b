use Rattle.std.proofs.Common.{◌≡◌, ◌++◌, All, map, take}
use Rattle.std.specs.List.{flat_map}
use Rattle.air_expressions.specs.Tree.{tree_of}
use Rattle.c_tables.specs.Nodes.{nodes_of}
use Rattle.c_tables.specs.Written.{IsWritableWithin}
use Rattle.c_tables.proofs.writer.write_list.Given as goal

abbrev pub invariant-loop-expression : goal.invariant-loop-expression
invariant-loop-expression g l = record {
  nodes : l.nodes.items ≡ l.initial.nodes.items ++ flat_map nodes_of (map tree_of (take l.expression-index l.expressions));
  each : All (λ e. IsWritableWithin 1024 (tree_of e)) (take l.expression-index l.expressions);
}

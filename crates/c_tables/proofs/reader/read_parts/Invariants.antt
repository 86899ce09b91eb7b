use Rattle.std.proofs.Common.{◌≡◌, take}
use Rattle.c_tables.specs.internal.Stack.{nodes_on_stack}
use Rattle.c_tables.proofs.reader.read_parts.Given as goal

abbrev pub invariant-loop-index : goal.invariant-loop-index
invariant-loop-index g l = nodes_on_stack l.stack.items ≡ take l.index l.nodes

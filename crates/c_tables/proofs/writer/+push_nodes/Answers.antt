use Rattle.std.proofs.Common.{inr}
use Rattle.air_expressions.specs.Tree.{tree_of}
use Rattle.c_tables.proofs.WriterLaws.{none_within}
use Rattle.c_tables.proofs.writer.+push_nodes.Goals as goal

pub returns-then-depth-eq0 : goal.returns-then-depth-eq0
returns-then-depth-eq0 g t c = inr (none_within (tree_of c.args.expression.now) c.args.depth c.if-depth-eq0.true)

use Rattle.std.proofs.Common.{◌<◌, arith, rules}
use native.Mathlib.Nat.{mod-eq_of_lt}
use Rattle.c_tables.proofs.nodes.leaf_of.Goals as goal

pub returns-else-node-eq5 : goal.returns-else-node-eq5
returns-else-node-eq5 g c =
    let below : c.args.node.now.number < g.row.P = grind (arith, c.requires) in
    let same = mod-eq_of_lt below in
    search rules

use Rattle.std.proofs.Common.{inl, inr, refl, arith}
use Rattle.c_tables.proofs.StackLaws.{first_bad}
use Rattle.c_tables.proofs.reader.read_parts.Goals as goal

pub returns-in-Err-Bad : goal.returns-in-Err-Bad
returns-in-Err-Bad g c = elim c.in-Err-Bad.ensures [
  | inl memory ↦ absurd (grind (arith, memory))
  | inr none ↦ inr (c.loop-index.index, refl, first_bad c.loop-index.stack.items c.args.nodes.now c.loop-index.index c.loop-index-test.true c.loop-index.invariant none)
]

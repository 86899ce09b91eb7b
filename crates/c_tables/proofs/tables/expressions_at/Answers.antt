use Rattle.std.proofs.Common.{◌≡◌, ◌≤◌, ◌<◌, ◌+◌, ◌-◌, ℕ, List, length, slice_range, drop, length-take, length-drop, ap, inl, inr, arith}
use Rattle.c_tables.specs.declared.nodes.Node.{Node}
use Rattle.c_tables.proofs.TableLaws.{none_written}
use Rattle.c_tables.proofs.tables.expressions_at.Goals as goal

in_range : (nodes : List Node) (a b i : ℕ) → a ≤ b → b ≤ length nodes → i < length (slice_range nodes a b) → a + i < b
in_range nodes a b i ordered ends within = omega (arith, ordered, ends, within, length-take (b - a) (drop a nodes), length-drop a nodes)

pub overflow_add-result : goal.overflow_add-result
overflow_add-result g c = elim c.in-Err-Bad.ensures.reads [
  | inl memory ↦ absurd (grind (arith, memory))
  | inr first ↦
      let same : c.in-Err-Bad.index ≡ first.0 = cc first.1 in
      omega (arith, same, in_range c.args.nodes.now c.args.span.start c.args.span.end first.0 c.if-span.false c.if-span-nodes.false first.2.within)
]

pub returns-in-Err-Bad : goal.returns-in-Err-Bad
returns-in-Err-Bad g c = elim c.in-Err-Bad.ensures.reads [
  | inl memory ↦ absurd (grind (arith, memory))
  | inr first ↦
      inr (none_written g.row.P c.args.nodes.now c.args.span first.0 first.2, (record { ordered = c.if-span.false; ends = c.if-span-nodes.false }, omega arith, (first.0, ap (λ i. c.args.span.start + i) (cc first.1), first.2)))
]

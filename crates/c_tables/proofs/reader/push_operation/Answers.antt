use Rattle.std.proofs.Common.{inr, arith}
use Rattle.c_tables.proofs.StackLaws.{full_two}
use Rattle.c_tables.proofs.reader.push_operation.Goals as goal

pub returns-then-max-ge-MAX_DEPTH : goal.returns-then-max-ge-MAX_DEPTH
returns-then-max-ge-MAX_DEPTH g c =
    inr (full_two c.args.stack.now.items c.pop.new.self.items c.pop-2.new.self.items c.in-Some.right c.in-Some-pop.left c.in-Some.ensures.items c.in-Some-pop.ensures.items (omega (arith, c.max.ensures, c.if-max-ge-MAX_DEPTH.true)))

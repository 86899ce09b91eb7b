use Rattle.std.proofs.Common.{inr}
use Rattle.c_tables.proofs.StackLaws.{full_one}
use Rattle.c_tables.proofs.reader.push_negation.Goals as goal

pub returns-then-part-ge-MAX_DEPTH : goal.returns-then-part-ge-MAX_DEPTH
returns-then-part-ge-MAX_DEPTH g c = inr (full_one c.args.stack.now.items c.pop.new.self.items c.in-Some.part c.in-Some.ensures.items c.if-part-ge-MAX_DEPTH.true)

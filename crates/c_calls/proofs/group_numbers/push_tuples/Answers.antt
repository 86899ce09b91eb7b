use Rattle.std.proofs.Common.{arith}
use Rattle.c_calls.specs.GroupNumbers.{tuple_numbers}
use Rattle.c_calls.proofs.WrittenLaws.{all_appended, part_appended}
use Rattle.c_calls.proofs.group_numbers.push_tuples.Goals as goal

pub loop-unbalanced-preserved : goal.loop-unbalanced-preserved
loop-unbalanced-preserved g c = part_appended tuple_numbers c.args.tuples.now c.loop-unbalanced.unbalanced-index c.unbalanced-item.result c.loop-unbalanced-test.true c.unbalanced-item.is c.args.numbers.now.items c.loop-unbalanced.numbers.items _ c.loop-unbalanced.invariant c.in_ok-push_tuple.ensures

pub returns : goal.returns
returns g c = all_appended tuple_numbers c.args.tuples.now c.loop-unbalanced.unbalanced-index (omega (arith, c.loop-unbalanced-test.false)) c.args.numbers.now.items c.loop-unbalanced.numbers.items c.loop-unbalanced.invariant

use Rattle.std.proofs.Common.{◌∷◌, [], arith, length}
use Rattle.c_calls.specs.GroupNumbers.{group_numbers}
use Rattle.c_calls.proofs.WrittenLaws.{all_appended, part_appended}
use Rattle.c_calls.proofs.group_numbers.numbers_of_table.Goals as goal

pub loop-group-preserved : goal.loop-group-preserved
loop-group-preserved g c = part_appended group_numbers c.args.groups.now c.loop-group.group-index c.group-item.result c.loop-group-test.true c.group-item.is (length c.args.groups.now ∷ []) c.loop-group.numbers.items _ c.loop-group.invariant c.in_ok-push_group.ensures

pub returns : goal.returns
returns g c = all_appended group_numbers c.args.groups.now c.loop-group.group-index (omega (arith, c.loop-group-test.false)) (length c.args.groups.now ∷ []) c.loop-group.numbers.items c.loop-group.invariant

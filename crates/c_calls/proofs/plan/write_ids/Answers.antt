use Rattle.std.proofs.Common.{ap, arith, length}
use Rattle.c_calls.proofs.WrittenLaws.{room_left}
use Rattle.c_calls.specs.Plan.{id_items}
use Rattle.c_calls.proofs.plan.write_ids.Goals as goal

pub write_numbers-requires : goal.write_numbers-requires
write_numbers-requires c =
    omega (
      arith,
      c.loop-list.auto.numbers,
      room_left id_items c.args.ids.now c.loop-list.list-index _ c.list-item.result c.loop-list-test.true c.list-item.is c.loop-list.at (length c.as_slice.result.now) (length c.args.numbers.now) (ap length c.as_slice.ensures.value) c.loop-list.invariant.at_is c.requires,
    )

use Rattle.std.proofs.Common.{◌∙◌, ap, arith, length, sym}
use Rattle.std.proofs.lemmas.List.{length-map}
use Rattle.c_tables.specs.Numbers.{numbers_of}
use Rattle.c_calls.specs.Outputs.{output_cells}
use Rattle.c_calls.proofs.WrittenLaws.{room_left}
use Rattle.c_calls.proofs.outputs.write_traces.Goals as goal

pub write_elements-requires : goal.write_elements-requires
write_elements-requires g c =
    omega (
      arith,
      c.loop-trace.auto.cells,
      room_left output_cells c.args.traces.now c.loop-trace.trace-index _ c.trace-item.result c.loop-trace-test.true c.trace-item.is c.loop-trace.at (length c.values.result.now) (length c.args.cells.now)
          (ap length c.values.ensures.values ∙ sym (length-map c.trace-item.result.values numbers_of)) c.loop-trace.invariant.at_is c.requires,
    )

use Rattle.std.proofs.Common.{arith, refl}
use Rattle.c_calls.proofs.WrittenLaws.{over_next}
use Rattle.c_calls.proofs.written_tables.write_items.Goals as goal

pub loop-index-preserved : goal.loop-index-preserved
loop-index-preserved g c =
    over_next c.args.values.now c.args.array.now c.loop-index.array _ c.loop-index.index _ c.index-values-index.result c.loop-index-test.true (omega (arith, c.loop-index-test.true, c.requires)) refl c.index-values-index.is c.loop-index.invariant

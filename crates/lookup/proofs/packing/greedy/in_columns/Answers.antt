use Rattle.std.proofs.Common.{refl, arith}
use Rattle.lookup.proofs.RecordLaws.{none_numbered, one_numbered}
use Rattle.lookup.proofs.packing.greedy.in_columns.Goals as goal

pub loop-column-init : goal.loop-column-init
loop-column-init g c = none_numbered c.args.lookups.items c.requires

pub loop-column-preserved : goal.loop-column-preserved
loop-column-preserved g c = one_numbered c.args.lookups.items c.loop-column.lookups.items _ c.loop-column.column c.index_mut.result.now c.loop-column.invariant
    (omega (arith, c.loop-column-test.true, c.len-column-end.ensures, c.args.lookups.ok.0, c.loop-column.invariant.long)) c.index_mut.ensures.value refl

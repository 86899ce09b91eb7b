use Rattle.c_calls.proofs.GivenIdsLaws.{ids_next}
use Rattle.c_calls.proofs.batch_tables.given_ids.Goals as goal

pub loop-index-preserved : goal.loop-index-preserved
loop-index-preserved c = ids_next c.args.airs.now c.loop-index.index _ c.loop-index.ids.items _ _ c.loop-index-test.true c.in_ok-push.ensures.items c.in_ok-from_slice.ensures.items c.loop-index.invariant

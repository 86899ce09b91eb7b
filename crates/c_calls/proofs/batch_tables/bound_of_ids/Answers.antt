use Rattle.std.proofs.Common.{◌∙◌, ap, max}
use Rattle.c_calls.proofs.GivenIdsLaws.{bound_more}
use Rattle.c_calls.proofs.batch_tables.bound_of_ids.Goals as goal

pub loop-index-preserved : goal.loop-index-preserved
loop-index-preserved c = bound_more c.args.ids.now c.loop-index.index _ c.args.bound c.loop-index.least c.max-least.result c.loop-index-test.true c.loop-index.invariant (c.max-least.ensures ∙ ap (max c.loop-index.least) c.saturating_add.ensures)

use Rattle.std.proofs.lemmas.Option.{slice_get-get_or}
use Rattle.c_tables.proofs.NumberLaws.{first_large_group, groups_next}
use Rattle.c_tables.proofs.numbers.first_large_group.Goals as goal

pub returns-in-None : goal.returns-in-None
returns-in-None g c =
    first_large_group g.row.P c.args.groups.now c.loop-index.index _ c.loop-index-test.true c.in-None.ensures c.loop-index.invariant

pub loop-index-preserved : goal.loop-index-preserved
loop-index-preserved g c =
    groups_next g.row.P c.args.groups.now c.loop-index.index _ (slice_get-get_or c.args.groups.now c.loop-index.index _ c.loop-index-test.true) c.in-Some.ensures.1 c.loop-index.invariant

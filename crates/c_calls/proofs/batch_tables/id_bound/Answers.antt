use Rattle.std.proofs.Common.{◌∙◌, ap, max}
use Rattle.lookup_model.specs.LookupDegree.{greatest}
use Rattle.std.proofs.Common.{map}
use Rattle.c_calls.specs.GivenIds.{next_number}
use Rattle.c_calls.proofs.GivenIdsLaws.{bound_next}
use Rattle.c_calls.proofs.batch_tables.id_bound.Goals as goal

pub loop-list-preserved : goal.loop-list-preserved
loop-list-preserved c = bound_next c.args.ids.now c.loop-list.list-index c.list-item.result c.loop-list.bound _ c.loop-list-test.true c.list-item.is c.loop-list.invariant
    (c.bound_of_ids-bound.ensures ∙ ap (λ ids. max c.loop-list.bound (greatest (map next_number ids))) c.as_slice.ensures.value)

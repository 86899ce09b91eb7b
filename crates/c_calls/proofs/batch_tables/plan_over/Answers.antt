use Rattle.std.proofs.Common.{◌∙◌, ap}
use Rattle.batch.specs.Lists.{lists_of}
use Rattle.batch.specs.Runs.{plan_of}
use Rattle.c_calls.specs.GivenIds.{id_bound}
use Rattle.c_calls.proofs.GivenIdsLaws.{planned_over}
use Rattle.c_calls.proofs.batch_tables.plan_over.Goals as goal

pub returns : goal.returns
returns g c = planned_over c.args.airs.now c.args.sets.items c.args.heights.items (lists_of c.in_ok-ids.ids.items) c.id_bound-num_ids.result plan_of c.with_ids.result c.in_ok-ids.ensures
    (c.id_bound-num_ids.ensures ∙ (ap (λ is. id_bound (lists_of is)) c.deref.ensures.value ∙ ap id_bound c.in_ok-ids.ensures)) c.with_ids.ensures

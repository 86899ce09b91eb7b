use Rattle.list_laws.proofs.Zips.{BothHoldBelow}
use Rattle.field.specs.laws.Extension.{of_laws}
use Rattle.lookup_model.specs.Batches.Witnesses.{IsSatisfiedAt, results_of}
use Rattle.batch.specs.Plans.{plan_batch}
use Rattle.batch.specs.Runs.{plan_of}
use Rattle.batch.specs.Tables.{made_table}
use Rattle.batch.proofs.plan.BatchPlan.check_results.Given as goal

abbrev pub invariant-loop-air : goal.invariant-loop-air
invariant-loop-air g l =
    let E = of_laws g.met.EF.ExtensionField.lawful_fields in
    BothHoldBelow (IsSatisfiedAt E (made_table E.ring l.alpha l.beta l.self.max_message_width l.self.num_ids)) (plan_batch (plan_of l.self) l.traces) (results_of l.witness) l.air

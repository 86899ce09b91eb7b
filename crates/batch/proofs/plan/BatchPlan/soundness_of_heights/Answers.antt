use Rattle.std.proofs.Common.{◌≤◌, ℕ, subst}
use Rattle.field.specs.laws.Extension.{of_laws}
use Rattle.lookup_model.proofs.Counting.MessageNumbers.{keys_within}
use Rattle.lookup_model.specs.Batches.Counts.{message_count}
use Rattle.batch.proofs.HeightCounts.{most_of_batch}
use Rattle.batch.proofs.PlanCalls.{batch_fits, batch_lawful}
use Rattle.batch.specs.Plans.{plan_batch}
use Rattle.batch.specs.Runs.{plan_of}
use Rattle.batch.proofs.plan.BatchPlan.soundness_of_heights.Goals as goal

pub returns-clause-sound : goal.returns-clause-sound
returns-clause-sound g c = λ traces fit.
    let self = c.args.self.now in
    let plan = plan_of self in
    let p = g.F.PrimeCharacteristicRing.CHARACTERISTIC in
    let E = of_laws g.met.EF.ExtensionField.lawful_fields in
    let batch = plan_batch plan traces in
    let most = most_of_batch p plan self.facts traces fit in
    record {
      most = most;
      messages = λ flags. subst (λ (M : ℕ). message_count E batch ≤ M) most (keys_within E batch flags);
      few = λ flags. (c.linear_soundness.ensures.betas plan.width plan.num_ids batch (batch_fits p plan self.facts traces fit) (batch_lawful p plan self.facts traces fit) flags).by_heights;
    }

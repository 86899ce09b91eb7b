use Rattle.batch.specs.Plans.{plan_batch}
use Rattle.batch.specs.Runs.{plan_of}
use Rattle.batch_enforced.proofs.FlagLaws.{flags_of}
use Rattle.batch_enforced.proofs.PlanLaws.{plan_constrained}
use Rattle.batch_enforced.specs.EnforcedPlans.{constraints_of}
use Rattle.batch_enforced.proofs.plan.EnforcedPlan.soundness_of_heights.Goals as goal

pub returns-clause-sound : goal.returns-clause-sound
returns-clause-sound g c = λ traces fit hold.
    let self = c.args.self.now in
    let R = g.F.PrimeCharacteristicRing.ring in
    let eq = g.F.PartialEq.eq in
    let plan = plan_of self.plan in
    let constraints = constraints_of self.constraints.items in
    let flags = flags_of R eq constraints (plan_batch plan traces) (plan_constrained R eq g.F.PrimeCharacteristicRing.CHARACTERISTIC plan constraints self.plan.facts self.enforced traces fit hold) in
    let bounds = c.soundness_of_heights.ensures.sound traces fit in
    record { most = bounds.most; messages = bounds.messages flags; few = bounds.few flags }

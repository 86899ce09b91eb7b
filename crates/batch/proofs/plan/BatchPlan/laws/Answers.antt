use Rattle.batch.proofs.PlanCalls.{batch_fits, batch_lawful}
use Rattle.batch.specs.Runs.{plan_of}
use Rattle.batch.proofs.plan.BatchPlan.laws.Goals as goal

pub returns-clause-fit : goal.returns-clause-fit
returns-clause-fit g c = batch_fits g.F.PrimeCharacteristicRing.CHARACTERISTIC (plan_of c.args.self.now) c.args.self.now.facts

pub returns-clause-ids : goal.returns-clause-ids
returns-clause-ids g c = batch_lawful g.F.PrimeCharacteristicRing.CHARACTERISTIC (plan_of c.args.self.now) c.args.self.now.facts

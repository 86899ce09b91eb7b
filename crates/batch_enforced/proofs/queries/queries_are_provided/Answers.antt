use Rattle.batch.specs.Runs.{plan_of}
use Rattle.batch_enforced.proofs.QueryLaws.{plan_provides}
use Rattle.batch_enforced.proofs.queries.queries_are_provided.Goals as goal

pub returns : goal.returns
returns g c =
    plan_provides g.F.PrimeCharacteristicRing.ring g.F.PartialEq.eq g.F.PrimeCharacteristicRing.CHARACTERISTIC (plan_of c.args.plan.now) c.args.plan.now.facts c.laws.ensures.heights

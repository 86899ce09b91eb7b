use Rattle.lookup_enforced.proofs.WeightLaws.{kept}
use Rattle.lookup_enforced.proofs.weight.keeps_weight.Goals as goal

pub returns-clause-enforced : goal.returns-clause-enforced
returns-clause-enforced g c t =
    kept g.F.PrimeCharacteristicRing.ring g.F.PartialEq.eq c.args.lookup.now c.args.enforcement.now c.args.queries.now (c.stays_within_weight.ensures.0 t)

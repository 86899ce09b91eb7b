use Rattle.std.proofs.Common.{◌∙◌, ap}
use Rattle.field.specs.laws.RingFacts.{neg_neg}
use Rattle.lookup_record_tests.proofs.tests.counts.negated_twice.Goals as goal

pub returns-clause-expression : goal.returns-clause-expression
returns-clause-expression g c =
    g.met.F.PrimeCharacteristicRing.neg_is _ _ c.neg-2.ensures.0 ∙ ap g.F.PrimeCharacteristicRing.ring.neg (g.met.F.PrimeCharacteristicRing.neg_is _ _ c.neg.ensures.0) ∙ neg_neg g.F.PrimeCharacteristicRing.lawful c.args.count.expression

use Rattle.std.proofs.Common.{◌∙◌, ap, refl}
use Rattle.field.specs.laws.RingFacts.{neg_neg}
use Rattle.lookup_record.proofs.count.Count.negate.Goals as goal

pub returns-clause-negation : goal.returns-clause-negation
returns-clause-negation g c = rw (← c.self.view_is)
    (record { means = c.in_ok-expression.ensures.means; degree_is = c.in_ok-expression.ensures.degree })

pub returns-clause-twice : goal.returns-clause-twice
returns-clause-twice g c s = rw (← c.self.view_is)
    (ap g.F.PrimeCharacteristicRing.ring.neg (c.in_ok-expression.ensures.means s) ∙ neg_neg g.F.PrimeCharacteristicRing.lawful _)

pub returns-clause-weight : goal.returns-clause-weight
returns-clause-weight g c = rw (← c.self.view_is) refl

pub returns-clause-within : goal.returns-clause-within
returns-clause-within g c = rw (← c.self.view_is) c.in_ok-expression.ensures.within

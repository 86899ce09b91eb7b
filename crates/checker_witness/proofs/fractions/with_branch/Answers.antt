use Rattle.std.proofs.Common.{◌∙◌}
use Rattle.checker_witness.proofs.fractions.with_branch.Goals as goal

pub returns-clause-numerator : goal.returns-clause-numerator
returns-clause-numerator g c =
    let met = g.met.EF.PrimeCharacteristicRing in
    let raised = met.mul_is _ _ _ c.mul.ensures in
    let added = c.scaled.ensures ∙ g.EF.PrimeCharacteristicRing.lawful.mul_comm c.args.quotient.denominator (g.EF.ExtensionDomain.embed c.args.multiplicity) in
    met.add_is _ _ _ c.add.ensures ∙ (λ k. g.EF.PrimeCharacteristicRing.ring.add (raised k) (added k))

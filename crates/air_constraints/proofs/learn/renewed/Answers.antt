use Rattle.std.proofs.Common.{ap, ◌∙◌}
use Rattle.air_constraints.specs.Polynomials.{sum_at}
use Rattle.air_constraints.proofs.TreeLaws.{none_more}
use Rattle.air_constraints.proofs.learn.renewed.Goals as goal

pub returns-in_ok-add_multiple-in-Err-Large : goal.returns-in_ok-add_multiple-in-Err-Large
returns-in_ok-add_multiple-in-Err-Large g c = λ w so.
    let R = g.F.PrimeCharacteristicRing.ring in
    let one_is = c.ONE.ensures ∙ g.met.F.PrimeCharacteristicRing.one_is in
    c.in_ok-add_multiple-in-Err-Large.ensures w so ∙ none_more g.F.PrimeCharacteristicRing.lawful c.ONE.result _ _ one_is (ap (sum_at R w) c.new-copy.ensures.items)

use Rattle.std.proofs.Common.{ap, ◌∙◌}
use Rattle.field.specs.Ring.{sub_in}
use Rattle.air_constraints.specs.Polynomials.{sum_at}
use Rattle.air_constraints.proofs.TreeLaws.{less_one}
use Rattle.air_constraints.proofs.zeros.square_less_itself.Goals as goal

pub returns : goal.returns
returns g c = λ w so.
    let R = g.F.PrimeCharacteristicRing.ring in
    let met = g.met.F.PrimeCharacteristicRing in
    let by_is = met.neg_is _ _ c.neg.ensures ∙ ap R.neg (c.ONE.ensures ∙ met.one_is) in
    let e = sum_at R w c.args.terms.now in
    c.in_ok-limited_sum.ensures w so ∙ less_one g.F.PrimeCharacteristicRing.lawful c.neg.result _ e by_is ∙ ap (λ x. sub_in R x e) (c.in_ok-square.ensures w so)

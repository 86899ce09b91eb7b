use Rattle.std.proofs.Common.{ap, subst, ◌∙◌}
use Rattle.air_constraints.specs.Facts.{IsBit}
use Rattle.air_constraints.specs.Polynomials.{sum_at}
use Rattle.air_constraints.proofs.BoundLaws.{bit-within, minus-within}
use Rattle.air_constraints.proofs.TreeLaws.{none_less}
use Rattle.air_constraints.proofs.bounds.is_within_one.Goals as goal

pub returns-then-bit : goal.returns-then-bit
returns-then-bit g c = λ t w so. bit-within g.F.PrimeCharacteristicRing.lawful (sum_at g.F.PrimeCharacteristicRing.ring w c.args.terms.now) (c.in_ok-bit.ensures c.if-bit.true w so)

pub returns : goal.returns
returns g c = λ t w so.
    let R = g.F.PrimeCharacteristicRing.ring in
    let laws = g.F.PrimeCharacteristicRing.lawful in
    let met = g.met.F.PrimeCharacteristicRing in
    let by_is = met.neg_is _ _ c.neg.ensures ∙ ap R.neg (c.ONE.ensures ∙ met.one_is) in
    let x = sum_at R w c.args.terms.now in
    let I : g.row.F.Denot → Type 0 = IsBit R in
    let turned = c.in_ok-add_multiple.ensures w so ∙ ap (λ y. R.add (R.mul (R.mul c.neg.result R.one) x) y) (ap (sum_at R w) c.new-turned.ensures.items) ∙ none_less laws c.neg.result x by_is in
    minus-within laws x _ turned (subst I (ap (sum_at R w) c.as_slice.ensures.value) (c.in_ok-minus.ensures t w so))

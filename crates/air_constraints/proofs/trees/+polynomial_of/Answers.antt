use Rattle.std.proofs.Common.{ap, ap₂, ◌∙◌}
use Rattle.field.specs.Ring.{sub_in}
use Rattle.air_constraints.specs.Hold.{value_at}
use Rattle.air_constraints.specs.Polynomials.{sum_at}
use Rattle.air_constraints.proofs.TreeLaws.{less_one, none_less_one}
use Rattle.air_constraints.proofs.trees.+polynomial_of.Goals as goal

pub returns-in_ok-limited_sum-in-Sub : goal.returns-in_ok-limited_sum-in-Sub
returns-in_ok-limited_sum-in-Sub g t c = rw c.in-Sub.is (λ w kind so.
    let R = g.F.PrimeCharacteristicRing.ring in
    let met = g.met.F.PrimeCharacteristicRing in
    let by_is = met.neg_is _ _ c.neg.ensures ∙ ap R.neg (c.ONE-in-Sub.ensures ∙ met.one_is) in
    let l = sum_at R w c.in_ok-left-in-Sub.left.items in
    let r = sum_at R w c.in_ok-right-in-Sub.right.items in
    let left = c.in_ok-left-in-Sub.ensures w kind so ∙ ap (λ e. value_at R w e) c.deref-in-Sub.ensures in
    let right = c.in_ok-right-in-Sub.ensures w kind so ∙ ap (λ e. value_at R w e) c.deref-in-Sub-2.ensures in
    c.in_ok-limited_sum-in-Sub.ensures w so
    ∙ ap (λ xs. R.add (R.mul c.neg.result (sum_at R w xs)) l) c.as_slice-in-Sub.ensures.value
    ∙ less_one g.F.PrimeCharacteristicRing.lawful c.neg.result l r by_is
    ∙ ap₂ (λ x y. sub_in R x y) left right)

pub returns-in_ok-limited_sum-in-Neg : goal.returns-in_ok-limited_sum-in-Neg
returns-in_ok-limited_sum-in-Neg g t c = rw c.in-Neg.is (λ w kind so.
    let R = g.F.PrimeCharacteristicRing.ring in
    let met = g.met.F.PrimeCharacteristicRing in
    let by_is = met.neg_is _ _ c.neg-in-Neg.ensures ∙ ap R.neg (c.ONE-in-Neg.ensures ∙ met.one_is) in
    let inner = c.in_ok-inner-in-Neg.ensures w kind so ∙ ap (λ e. value_at R w e) c.deref-in-Neg.ensures in
    c.in_ok-limited_sum-in-Neg.ensures w so
    ∙ ap (λ xs. R.add (R.mul c.neg-in-Neg.result (sum_at R w xs)) (sum_at R w c.new-nothing.result.items)) c.as_slice-in-Neg.ensures.value
    ∙ none_less_one g.F.PrimeCharacteristicRing.lawful c.neg-in-Neg.result _ _ by_is (ap (sum_at R w) c.new-nothing.ensures.items)
    ∙ ap R.neg inner)

use Rattle.std.proofs.Common.{◌≡◌, MatchOption, Option, Vec, Global, sym, ap, subst, ◌∙◌}
use Rattle.air_expressions.specs.declared.variable.SymbolicVariable.{SymbolicVariable}
use Rattle.air_constraints.specs.Polynomials.{product_at, sum_at}
use Rattle.air_constraints.proofs.SumLaws.{multiple-made, multiple-zero}
use Rattle.air_constraints.proofs.polynomial.add_product.Goals as goal

pub returns-in-None : goal.returns-in-None
returns-in-None g c = λ w so.
    let R = g.F.PrimeCharacteristicRing.ring in
    let p = product_at R w c.args.cells.now in
    let t = c.args.term.now in
    let M : Option (Vec (SymbolicVariable g.row.F.Denot) Global) → Type 0 = λ o. MatchOption o (R.mul p (product_at R w c.as_slice.result.now) ≡ R.zero) (λ v. product_at R w v.items ≡ R.mul p (product_at R w c.as_slice.result.now)) in
    let none : R.mul p (product_at R w c.as_slice.result.now) ≡ R.zero = subst M c.in-None.is (c.in_ok-product_of_cells.ensures w so) in
    multiple-zero g.F.PrimeCharacteristicRing.lawful w c.args.by p t.coefficient (product_at R w t.cells.items) (sum_at R w c.args.sum.now.items)
    (ap (λ xs. R.mul p (product_at R w xs)) (sym c.as_slice.ensures.value) ∙ none)

pub returns-in_ok-add_term-in-Some : goal.returns-in_ok-add_term-in-Some
returns-in_ok-add_term-in-Some g c = λ w so.
    let R = g.F.PrimeCharacteristicRing.ring in
    let laws = g.F.PrimeCharacteristicRing.lawful in
    let p = product_at R w c.args.cells.now in
    let t = c.args.term.now in
    let q = product_at R w t.cells.items in
    let M : Option (Vec (SymbolicVariable g.row.F.Denot) Global) → Type 0 = λ o. MatchOption o (R.mul p (product_at R w c.as_slice.result.now) ≡ R.zero) (λ v. product_at R w v.items ≡ R.mul p (product_at R w c.as_slice.result.now)) in
    let some : product_at R w c.in-Some.product.items ≡ R.mul p (product_at R w c.as_slice.result.now) = subst M c.in-Some.is (c.in_ok-product_of_cells.ensures w so) in
    let made : product_at R w c.in-Some.product.items ≡ R.mul p q = some ∙ ap (λ xs. R.mul p (product_at R w xs)) c.as_slice.ensures.value in
    let by_is = g.met.F.PrimeCharacteristicRing.mul_is _ _ _ c.mul-coefficient.ensures in
    c.in_ok-add_term-in-Some.ensures w ∙ multiple-made laws w c.args.by p t.coefficient q _ _ (sum_at R w c.args.sum.now.items) by_is made

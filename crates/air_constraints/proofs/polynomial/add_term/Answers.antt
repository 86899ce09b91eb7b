use Rattle.std.proofs.Common.{◌<◌, length, refl, sym, ap, ◌∙◌, arith}
use Rattle.air_constraints.specs.Polynomials.{product_at, sum_at}
use Rattle.air_constraints.proofs.SumLaws.{sum-insert, taken, taken_zero}
use Rattle.air_constraints.proofs.polynomial.add_term.Goals as goal

pub returns-then-is_zero : goal.returns-then-is_zero
returns-then-is_zero g c = λ w.
    let R = g.F.PrimeCharacteristicRing.ring in
    let ts = c.args.terms.now.items in
    let i = c.place_of-at.result in
    let lt : i < length ts = omega (arith, c.if-at-len.true, c.len.ensures) in
    let same = sym (ap (product_at R w) c.as_slice-then-at-len.ensures.value) ∙ c.if-same_products.ensures refl w ∙ ap (product_at R w) c.as_slice-then-at-len-2.ensures.value in
    let sum_is = g.met.F.PrimeCharacteristicRing.add_is _ _ _ c.add-sum.ensures in
    ap (sum_at R w) c.remove-coefficient.ensures.items
    ∙ taken_zero g.F.PrimeCharacteristicRing.lawful w ts i c.remove-coefficient.result c.index.result.now c.args.term c.add-sum.result lt c.remove-coefficient.ensures.value c.index.ensures same sum_is (c.if-is_zero.ensures.0 refl)

pub returns-then-same_products : goal.returns-then-same_products
returns-then-same_products g c = λ w.
    let R = g.F.PrimeCharacteristicRing.ring in
    let laws = g.F.PrimeCharacteristicRing.lawful in
    let ts = c.args.terms.now.items in
    let i = c.place_of-at.result in
    let lt : i < length ts = omega (arith, c.if-at-len.true, c.len.ensures) in
    let same = sym (ap (product_at R w) c.as_slice-then-at-len.ensures.value) ∙ c.if-same_products.ensures refl w ∙ ap (product_at R w) c.as_slice-then-at-len-2.ensures.value in
    let sum_is = g.met.F.PrimeCharacteristicRing.add_is _ _ _ c.add-sum.ensures in
    let rest = c.remove-coefficient.new.self.items in
    let p = product_at R w c.remove-coefficient.result.cells.items in
    ap (sum_at R w) c.in_ok-insert.ensures.items
    ∙ sum-insert laws w rest i _
    ∙ ap (λ xs. R.add (R.mul c.add-sum.result p) (sum_at R w xs)) c.remove-coefficient.ensures.items
    ∙ taken laws w ts i c.remove-coefficient.result c.index.result.now c.args.term c.add-sum.result lt c.remove-coefficient.ensures.value c.index.ensures same sum_is

pub returns : goal.returns
returns g c = λ w.
    ap (sum_at g.F.PrimeCharacteristicRing.ring w) c.in_ok-insert-2.ensures.items
    ∙ sum-insert g.F.PrimeCharacteristicRing.lawful w c.args.terms.now.items c.place_of-at.result c.args.term

use Rattle.std.proofs.Common.{All, List, refl, sym, ap, subst, ◌∙◌}
use Rattle.list_laws.proofs.Each.{All-at}
use Rattle.air_constraints.specs.Facts.{IsGiven}
use Rattle.air_constraints.specs.declared.facts.Given.{Given}
use Rattle.air_constraints.specs.Polynomials.{sum_at}
use Rattle.air_constraints.proofs.TreeLaws.{none_more}
use Rattle.air_constraints.proofs.trees.polynomial_of_cell.Goals as goal

pub returns-then-same_cell : goal.returns-then-same_cell
returns-then-same_cell g c = λ w so.
    let R = g.F.PrimeCharacteristicRing.ring in
    let one_is = c.ONE.ensures ∙ g.met.F.PrimeCharacteristicRing.one_is in
    let given = c.given-item.result in
    let P : List (Given g.row.F.Denot) → Type 0 = λ gs. All (IsGiven R w) gs in
    let all = subst P (sym c.deref-given-items.ensures.value) so.given in
    let here = All-at (IsGiven R w) c.deref-given-items.result.now c.loop-given.given-index given all c.loop-given-test.true c.given-item.is in
    c.in_ok-add_multiple.ensures w so
    ∙ none_more g.F.PrimeCharacteristicRing.lawful c.ONE.result _ _ one_is (ap (sum_at R w) c.new-terms.ensures.items)
    ∙ ap (sum_at R w) c.as_slice.ensures.value ∙ sym here ∙ c.if-same_cell.ensures refl w

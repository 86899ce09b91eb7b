use Rattle.std.proofs.Common.{◌≡◌, ◌≤◌, ◌+◌, ℕ, length, take, take_all, refl, sym, ap, subst, ◌∙◌, arith}
use Rattle.std.proofs.lemmas.Bool.{eqb-true}
use Rattle.field.specs.laws.RingFacts.{mul_zero}
use Rattle.air_expressions.specs.Window.{Window}
use Rattle.air_constraints.specs.Polynomials.{product_at}
use Rattle.air_constraints.proofs.ProductLaws.{item_is, part-more, whole-more}
use Rattle.air_constraints.proofs.cells.has_product.Goals as goal
use Rattle.air_constraints.proofs.cells.has_product.Goals.{then-found-part+then-same_cell, else-found-part}

pub loop-cell-preserved : goal.loop-cell-preserved
loop-cell-preserved g c =
    let R = g.F.PrimeCharacteristicRing.ring in
    let laws = g.F.PrimeCharacteristicRing.lawful in
    let cells = c.args.cells.now in
    let part = c.args.part.now in
    let i = c.loop-cell.cell-index in
    let lt = c.loop-cell-test.true in
    let P : ℕ → Type 0 = λ n. (n ≤ length part) × ((w : Window g.row.F.Denot) → (x : g.row.F.Denot) × (product_at R w (take (i + 1) cells) ≡ R.mul x (product_at R w (take n part)))) in
    elim c.if-found-part.branch [
      | then-found-part+then-same_cell w ↦ subst P (sym w.found-is)
          (omega (arith, w.if-found-part.true), λ win. part-more laws win cells part i c.loop-cell.found _ _ lt (item_is cells i _ lt) w.if-found-part.true (item_is part c.loop-cell.found _ w.if-found-part.true) (w.if-same_cell.ensures refl win) (c.loop-cell.invariant.1 win))
      | else-found-part w ↦ subst P (sym w.found-is)
          (c.loop-cell.invariant.0, λ win. whole-more laws win cells i _ lt (c.loop-cell.invariant.1 win))
    ]

pub returns : goal.returns
returns g c = λ t w none.
    let R = g.F.PrimeCharacteristicRing.ring in
    let laws = g.F.PrimeCharacteristicRing.lawful in
    let cells = c.args.cells.now in
    let part = c.args.part.now in
    let found = c.loop-cell.invariant.1 w in
    let all = take_all c.loop-cell.cell-index cells c.loop-cell-test.false in
    let whole = take_all c.loop-cell.found part (omega (arith, eqb-true c.loop-cell.found (length part) t)) in
    sym (ap (product_at R w) all) ∙ found.1 ∙ ap (λ p. R.mul found.0 (product_at R w p)) whole ∙ ap (R.mul found.0) none ∙ mul_zero laws found.0

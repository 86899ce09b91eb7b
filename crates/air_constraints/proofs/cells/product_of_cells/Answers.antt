use Rattle.std.proofs.Common.{All, List, Vec, Global, take_all, refl, sym, ap, subst, ◌∙◌}
use Rattle.air_expressions.specs.declared.variable.SymbolicVariable.{SymbolicVariable}
use Rattle.air_constraints.specs.Facts.{AreApart, AreBits, IsZeroProduct}
use Rattle.air_constraints.specs.Polynomials.{product_at}
use Rattle.air_constraints.proofs.ProductLaws.{item_is, product-more, product-none}
use Rattle.air_constraints.proofs.cells.product_of_cells.Goals as goal

pub loop-cell-preserved : goal.loop-cell-preserved
loop-cell-preserved g c = λ w so.
    let R = g.F.PrimeCharacteristicRing.ring in
    let b = c.args.b.now in
    let i = c.loop-cell.cell-index in
    let lt = c.loop-cell-test.true in
    let P : List (SymbolicVariable g.row.F.Denot) → Type 0 = AreBits R w in
    product-more g.F.PrimeCharacteristicRing.lawful w (product_at R w c.args.a.now) b i _ _ _ lt (item_is b i _ lt) (c.loop-cell.invariant w so)
    (c.in_ok-with_cell.ensures w (subst P (sym c.as_slice-in-loop-cell-2.ensures.value) so.bits))

pub returns-then-is_apart_in_some : goal.returns-then-is_apart_in_some
returns-then-is_apart_in_some g c = λ w so.
    let R = g.F.PrimeCharacteristicRing.ring in
    let b = c.args.b.now in
    let i = c.loop-cell.cell-index in
    let lt = c.loop-cell-test.true in
    let G : List (Vec (SymbolicVariable g.row.F.Denot) Global) → Type 0 = λ gs. All (λ g'. AreApart R w g'.items) gs in
    let none = c.if-is_apart_in_some.ensures refl w (subst G (sym c.as_slice-in-loop-cell.ensures.value) so.exclusive) in
    product-none g.F.PrimeCharacteristicRing.lawful w (product_at R w c.args.a.now) (product_at R w c.as_slice.result.now) b i _ none lt (item_is b i _ lt)
    (ap (product_at R w) c.as_slice.ensures.value ∙ c.loop-cell.invariant w so)

pub returns-then-is_zero_product : goal.returns-then-is_zero_product
returns-then-is_zero_product g c = λ w so.
    let R = g.F.PrimeCharacteristicRing.ring in
    let N : List (Vec (SymbolicVariable g.row.F.Denot) Global) → Type 0 = λ ns. All (λ n. IsZeroProduct R w n.items) ns in
    let none = c.if-is_zero_product.ensures refl w (subst N (sym c.as_slice-3.ensures.value) so.zero_products) in
    let all = take_all c.loop-cell.cell-index c.args.b.now c.loop-cell-test.false in
    sym (c.loop-cell.invariant w so ∙ ap (λ xs. R.mul (product_at R w c.args.a.now) (product_at R w xs)) all)
    ∙ sym (ap (product_at R w) c.as_slice-2.ensures.value) ∙ none

pub returns : goal.returns
returns g c = λ w so.
    let R = g.F.PrimeCharacteristicRing.ring in
    let all = take_all c.loop-cell.cell-index c.args.b.now c.loop-cell-test.false in
    c.loop-cell.invariant w so ∙ ap (λ xs. R.mul (product_at R w c.args.a.now) (product_at R w xs)) all

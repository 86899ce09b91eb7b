use Rattle.std.proofs.Common.{◌<◌, length, map, take_all, refl, sym, ap, ◌∙◌, arith}
use Rattle.air_expressions.specs.Meaning.{variable_value}
use Rattle.air_constraints.proofs.ProductLaws.{item_is, product-same, values-more}
use Rattle.air_constraints.proofs.cells.same_products.Goals as goal

pub loop-i-init : goal.loop-i-init
loop-i-init g c = λ w. refl

pub loop-i-preserved : goal.loop-i-preserved
loop-i-preserved g c = λ w.
    let laws = g.F.PrimeCharacteristicRing.lawful in
    let a = c.args.a.now in
    let b = c.args.b.now in
    let i = c.loop-i.i in
    let in_a = c.loop-i-test.true in
    let in_b : i < length b = omega (arith, in_a, c.if-a-b.false) in
    values-more laws w a b i _ _ in_a in_b (item_is a i _ in_a) (item_is b i _ in_b) (c.if-not-same_cell.ensures refl w) (c.loop-i.invariant w)

pub returns : goal.returns
returns g c = λ t w.
    let R = g.F.PrimeCharacteristicRing.ring in
    let ta = take_all c.loop-i.i c.args.a.now c.loop-i-test.false in
    let tb = take_all c.loop-i.i c.args.b.now (omega (arith, c.loop-i-test.false, c.if-a-b.false)) in
    product-same g.F.PrimeCharacteristicRing.lawful w c.args.a.now c.args.b.now (sym (ap (map (variable_value R w)) ta) ∙ c.loop-i.invariant w ∙ ap (map (variable_value R w)) tb)

use Rattle.std.proofs.Common.{refl, sym, ap, ◌∙◌}
use Rattle.air_expressions.specs.Meaning.{variable_value}
use Rattle.air_constraints.proofs.ProductLaws.{apart-after, item_is}
use Rattle.air_constraints.proofs.cells.are_two_of.Goals as goal

pub returns-then-same_cell : goal.returns-then-same_cell
returns-then-same_cell g c = λ t w apart.
    let R = g.F.PrimeCharacteristicRing.ring in
    let laws = g.F.PrimeCharacteristicRing.lawful in
    let group = c.args.exclusive.now in
    let lt = c.loop-i-test.true in
    let after = apart-after laws w group c.loop-i.i _ lt (item_is group c.loop-i.i _ lt) apart in
    ap (λ x. R.mul x (variable_value R w c.args.b)) (sym (c.if-same_cell.ensures refl w)) ∙ c.has_cell.ensures.apart t w _ after

pub returns-then-same_cell-2 : goal.returns-then-same_cell-2
returns-then-same_cell-2 g c = λ t w apart.
    let R = g.F.PrimeCharacteristicRing.ring in
    let laws = g.F.PrimeCharacteristicRing.lawful in
    let group = c.args.exclusive.now in
    let lt = c.loop-i-test.true in
    let after = apart-after laws w group c.loop-i.i _ lt (item_is group c.loop-i.i _ lt) apart in
    laws.mul_comm (variable_value R w c.args.a) (variable_value R w c.args.b)
    ∙ ap (λ x. R.mul x (variable_value R w c.args.a)) (sym (c.if-same_cell-2.ensures refl w)) ∙ c.has_cell-then-same_cell-2.ensures.apart t w _ after

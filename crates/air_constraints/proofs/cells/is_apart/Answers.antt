use Rattle.std.proofs.Common.{refl}
use Rattle.air_expressions.specs.Meaning.{variable_value}
use Rattle.air_constraints.proofs.ProductLaws.{item_is, product-apart}
use Rattle.air_constraints.proofs.cells.is_apart.Goals as goal

pub returns-then-are_two_of : goal.returns-then-are_two_of
returns-then-are_two_of g c = λ t w apart.
    product-apart g.F.PrimeCharacteristicRing.lawful w (variable_value g.F.PrimeCharacteristicRing.ring w c.args.cell) c.args.cells.now c.loop-other.other-index _ c.loop-other-test.true (item_is c.args.cells.now c.loop-other.other-index _ c.loop-other-test.true) (c.if-are_two_of.ensures refl w apart)

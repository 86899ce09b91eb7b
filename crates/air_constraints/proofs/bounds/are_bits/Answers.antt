use Rattle.std.proofs.Common.{refl}
use Rattle.air_constraints.proofs.ProductLaws.{bits-more, item_is}
use Rattle.air_constraints.proofs.bounds.are_bits.Goals as goal

pub loop-cell-preserved : goal.loop-cell-preserved
loop-cell-preserved g c = λ w bits.
    bits-more g.F.PrimeCharacteristicRing.lawful w c.args.cells.now c.loop-cell.cell-index _ c.loop-cell-test.true (item_is c.args.cells.now c.loop-cell.cell-index _ c.loop-cell-test.true) (c.if-not-has_cell.ensures.bits refl w bits) (c.loop-cell.invariant w bits)

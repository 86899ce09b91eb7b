use Rattle.std.proofs.Common.{refl, ap, ◌∙◌, arith}
use Rattle.air_constraints.proofs.ProductLaws.{product-again, product-insert}
use Rattle.air_constraints.specs.Polynomials.{product_at}
use Rattle.air_constraints.proofs.cells.with_cell.Goals as goal

pub returns-then-has_cell : goal.returns-then-has_cell
returns-then-has_cell g c = λ w bits.
    product-again g.F.PrimeCharacteristicRing.lawful w c.args.cells.now.items c.loop-at.at c.index-then-at-len.result.now c.args.cell (omega (arith, c.if-at-len.true, c.len-2.ensures)) c.index-then-at-len.ensures (c.if-same_cell.ensures refl w) (c.if-has_cell.ensures.bits refl w bits)

pub returns : goal.returns
returns g c = λ w bits.
    ap (product_at g.F.PrimeCharacteristicRing.ring w) c.in_ok-insert.ensures.items ∙ product-insert g.F.PrimeCharacteristicRing.lawful w c.args.cells.now.items c.loop-at.at c.args.cell

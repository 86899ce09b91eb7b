use Rattle.std.proofs.Common.{◌≡◌, sym, ap, subst, ◌∙◌, arith}
use Rattle.matrix.specs.Matrix.{IsShaped, height}
use Rattle.lookup_generation.proofs.ShiftLaws.{shifted_more}
use Rattle.lookup_generation.proofs.ranges.shift.Goals as goal

pub loop-row-preserved : goal.loop-row-preserved
loop-row-preserved g c =
    let xs = c.args.rows.values in
    let width = c.width-width.result in
    let wide = c.width-width.ensures.width in
    let shape = subst (λ w. IsShaped (record { values = xs; width = w })) (sym wide) c.width-width.ensures.shaped in
    let high : c.height-height.result ≡ height (record { values = xs; width = width }) = c.height-height.ensures.height ∙ ap (λ w. height (record { values = xs; width = w })) (sym wide) in
    shifted_more g.K.PrimeCharacteristicRing.ring c.args.offset xs width c.loop-row.cells.items c.loop-row.row c.index.result.now c.add.result shape (omega (arith, c.loop-row-test.true, high)) c.index.ensures (g.met.K.PrimeCharacteristicRing.add_is _ _ _ c.add.ensures) c.loop-row.invariant

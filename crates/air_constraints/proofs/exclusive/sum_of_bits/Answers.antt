use Rattle.std.proofs.Common.{◌≡◌, List, map, take_all, refl, sym, ap, subst, ◌∙◌}
use Rattle.std.specs.List.{AllByRecursion}
use Rattle.air_expressions.specs.Meaning.{variable_value}
use Rattle.air_expressions.specs.declared.variable.SymbolicVariable.{SymbolicVariable}
use Rattle.air_constraints.specs.internal.Bits.{sum_of}
use Rattle.air_constraints.specs.Facts.{AreBits, IsBit}
use Rattle.air_constraints.specs.Polynomials.{sum_at}
use Rattle.air_constraints.proofs.ProductLaws.{item_is}
use Rattle.air_constraints.proofs.RecogniseLaws.{bits-more}
use Rattle.air_constraints.proofs.exclusive.sum_of_bits.Goals as goal

pub loop-cell-preserved : goal.loop-cell-preserved
loop-cell-preserved g c = λ w so.
    let R = g.F.PrimeCharacteristicRing.ring in
    let cells = c.args.cells.now in
    let i = c.loop-cell.cell-index in
    let lt = c.loop-cell-test.true in
    let P : List (SymbolicVariable g.row.F.Denot) → Type 0 = AreBits R w in
    let bit = c.if-not-has_cell.ensures.bits refl w (subst P (sym c.as_slice.ensures.value) so.bits) in
    bits-more g.F.PrimeCharacteristicRing.lawful g.met.F.Domain.domain (variable_value R w) cells i _ _ _ _ _ lt (item_is cells i _ lt) (c.loop-cell.invariant w so)
    (ap (sum_at R w) c.as_slice-in-loop-cell.ensures.value ∙ c.in_ok-one.ensures w) bit (c.ONE.ensures ∙ g.met.F.PrimeCharacteristicRing.one_is) (c.in_ok-add_multiple.ensures w so)

pub returns : goal.returns
returns g c = λ w so.
    let R = g.F.PrimeCharacteristicRing.ring in
    let P : List (SymbolicVariable g.row.F.Denot) → Type 0 = λ vs. AllByRecursion (λ v. IsBit R (variable_value R w v)) vs × (sum_at R w c.loop-cell.sum.items ≡ sum_of R (map (variable_value R w) vs)) in
    subst P (take_all c.loop-cell.cell-index c.args.cells.now c.loop-cell-test.false) (c.loop-cell.invariant w so)

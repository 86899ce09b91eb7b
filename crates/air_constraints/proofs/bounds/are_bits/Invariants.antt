use Rattle.std.proofs.Common.{take}
use Rattle.air_expressions.specs.Window.{Window}
use Rattle.air_constraints.specs.Facts.{AreBits, IsBit}
use Rattle.air_constraints.specs.Polynomials.{product_at}
use Rattle.air_constraints.proofs.bounds.are_bits.Given as goal

abbrev pub invariant-loop-cell : goal.invariant-loop-cell
invariant-loop-cell g l =
    let R = g.F.PrimeCharacteristicRing.ring in
    (w : Window g.row.F.Denot) → AreBits R w l.bits → IsBit R (product_at R w (take l.cell-index l.cells))

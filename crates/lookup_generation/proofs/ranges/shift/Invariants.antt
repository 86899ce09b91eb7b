use Rattle.lookup_generation.proofs.ShiftLaws.{AreShifted}
use Rattle.lookup_generation.proofs.ranges.shift.Given as goal

abbrev pub invariant-loop-row : goal.invariant-loop-row
invariant-loop-row g l = AreShifted g.K.PrimeCharacteristicRing.ring l.offset l.fn.rows.values l.width l.row l.cells.items

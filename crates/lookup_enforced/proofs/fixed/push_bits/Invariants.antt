use Rattle.lookup_enforced.specs.Fixed.{HoldOverFixed}
use Rattle.lookup_enforced.proofs.fixed.push_bits.Given as goal

abbrev pub invariant-loop-column : goal.invariant-loop-column
invariant-loop-column g l =
    let R = g.F.PrimeCharacteristicRing.ring in
    HoldOverFixed R l.preprocessed l.fn.found.items → HoldOverFixed R l.preprocessed l.found.items

use Rattle.lookup_enforced.specs.Fixed.{HoldOverFixed}
use Rattle.lookup_enforced.proofs.fixed.push_exclusive.Given as goal

abbrev pub invariant-loop-index : goal.invariant-loop-index
invariant-loop-index g l =
    let R = g.F.PrimeCharacteristicRing.ring in
    HoldOverFixed R l.preprocessed l.fn.found.items → HoldOverFixed R l.preprocessed l.found.items

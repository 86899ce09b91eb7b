use Rattle.lookup_enforced.specs.Fixed.{HoldOverFixed}
use Rattle.lookup_enforced.proofs.over_fixed.fixed_by_lookups.Given as goal

abbrev pub invariant-loop-lookup : goal.invariant-loop-lookup
invariant-loop-lookup g l = HoldOverFixed g.F.PrimeCharacteristicRing.ring l.preprocessed l.found.items

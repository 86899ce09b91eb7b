use Rattle.lookup_debug.specs.internal.Nets.{IsFirstIndex}
use Rattle.lookup_debug.proofs.first.least_unbalanced.Given as goal

abbrev pub invariant-loop-index : goal.invariant-loop-index
invariant-loop-index g l = IsFirstIndex g.F.PrimeCharacteristicRing.ring g.F.PartialEq.eq g.F.Field.text l.nets.entries l.index l.best

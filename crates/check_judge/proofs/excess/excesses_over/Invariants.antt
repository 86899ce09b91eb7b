use Rattle.std.proofs.Common.{map, take}
use Rattle.std.specs.List.{AllZip}
use Rattle.air.specs.Traces.{traces_of}
use Rattle.check_judge.specs.Counts.{counts_for}
use Rattle.check_judge.specs.Excesses.{IsExcessFound}
use Rattle.check_judge.proofs.excess.excesses_over.Given as goal

abbrev pub invariant-loop-index : goal.invariant-loop-index
invariant-loop-index g l = AllZip (λ lookup found. IsExcessFound g.F.PrimeCharacteristicRing.CHARACTERISTIC g.F.SignedField.number g.F.PrimeCharacteristicRing.ring g.F.PartialEq.eq (traces_of l.traces) lookup (counts_for (map (λ c. c.items) l.counts) lookup.column) found) (take l.index l.lookups) l.excesses.items

use Rattle.std.proofs.Common.{take}
use Rattle.std.specs.List.{AllZip}
use Rattle.check_judge.specs.Constraints.{IsChecked, over_constrained}
use Rattle.check_judge.proofs.constraints.failures_of.Given as goal

abbrev pub invariant-loop-index : goal.invariant-loop-index
invariant-loop-index g l = AllZip (λ air found. IsChecked g.F.PrimeCharacteristicRing.ring (over_constrained air) found) (take l.index l.airs) l.failures.items

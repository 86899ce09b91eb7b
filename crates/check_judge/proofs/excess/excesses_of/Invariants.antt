use Rattle.std.proofs.Common.{take}
use Rattle.std.specs.List.{AllZip}
use Rattle.check_judge.specs.Constraints.{over_constrained}
use Rattle.check_judge.specs.Excesses.{AreExcesses}
use Rattle.check_judge.proofs.excess.excesses_of.Given as goal

abbrev pub invariant-loop-index : goal.invariant-loop-index
invariant-loop-index g l = AllZip (λ air found. AreExcesses g.F.PrimeCharacteristicRing.CHARACTERISTIC g.F.SignedField.number g.F.PrimeCharacteristicRing.ring g.F.PartialEq.eq (over_constrained air) found.items) (take l.index l.airs) l.excesses.items

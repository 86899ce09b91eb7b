use Rattle.std.proofs.Common.{take}
use Rattle.std.specs.List.{AllZip}
use Rattle.check_judge.specs.Constraints.{over_constrained}
use Rattle.check_judge.specs.Enforced.{IsEnforcedOver}
use Rattle.check_judge.proofs.enforced.enforced_over.Given as goal

abbrev pub invariant-loop-index : goal.invariant-loop-index
invariant-loop-index g l = AllZip (λ air found. IsEnforcedOver g.F.PrimeCharacteristicRing.ring g.F.PartialEq.eq (over_constrained air) found) (take l.index l.airs) l.enforced.items

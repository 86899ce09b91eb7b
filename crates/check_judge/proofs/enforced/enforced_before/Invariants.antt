use Rattle.std.proofs.Common.{take}
use Rattle.std.specs.List.{AllZip}
use Rattle.check_judge.specs.Enforced.{IsEnforcedAir}
use Rattle.check_judge.specs.internal.Asserted.{asserted_air_of}
use Rattle.check_judge.proofs.enforced.enforced_before.Given as goal

abbrev pub invariant-loop-index : goal.invariant-loop-index
invariant-loop-index g l = AllZip (λ air found. IsEnforcedAir g.F.PrimeCharacteristicRing.ring g.F.PartialEq.eq (asserted_air_of air) found) (take l.index l.airs) l.enforced.items

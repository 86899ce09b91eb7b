use Rattle.std.proofs.Common.{ℕ, ◌<◌}
use Rattle.air.specs.Traces.{traces_of}
use Rattle.check_judge.specs.Excesses.{IsWithin}
use Rattle.check_judge.proofs.excess.first_excess.Given as goal

abbrev pub invariant-loop-message : goal.invariant-loop-message
invariant-loop-message g l = (message : ℕ) → message < l.message → IsWithin g.F.PrimeCharacteristicRing.CHARACTERISTIC g.F.SignedField.number g.F.PrimeCharacteristicRing.ring g.F.PartialEq.eq (traces_of l.traces) l.lookup l.said message

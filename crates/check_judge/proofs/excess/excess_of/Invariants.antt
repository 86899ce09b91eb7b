use Rattle.std.proofs.Common.{ℕ, ◌<◌}
use Rattle.air.specs.Traces.{traces_of, window_of}
use Rattle.check_judge.specs.Excesses.{CountsMore}
use Rattle.check_judge.proofs.excess.excess_of.Given as goal

abbrev pub invariant-loop-row : goal.invariant-loop-row
invariant-loop-row g l = (r : ℕ) (count : _) → r < l.row → ¬ CountsMore g.F.PrimeCharacteristicRing.CHARACTERISTIC g.F.SignedField.number g.F.PrimeCharacteristicRing.ring g.F.PartialEq.eq (window_of (traces_of l.traces) r) l.lookup l.message l.most count

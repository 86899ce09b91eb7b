use Rattle.std.proofs.Common.{map, take}
use Rattle.std.specs.List.{AllZip, zip}
use Rattle.check_judge.specs.Counts.{counts_for, queries_of}
use Rattle.check_judge.specs.Enforced.{IsWeightShown}
use Rattle.check_judge.proofs.enforced.weights_kept.Given as goal

abbrev pub invariant-loop-index : goal.invariant-loop-index
invariant-loop-index g l = AllZip (λ p kept. IsWeightShown g.F.PrimeCharacteristicRing.ring g.F.PartialEq.eq p.0 p.1 (queries_of (counts_for (map (λ v. v.items) l.counts) p.0.column)) kept) (take l.index (zip l.lookups l.shown)) l.weights.items

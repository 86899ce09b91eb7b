use Rattle.std.proofs.Common.{take, true}
use Rattle.std.specs.List.{zip}
use Rattle.lookup_enforced.specs.Weights.{AreWithin}
use Rattle.lookup_enforced.proofs.weight.each_is_within.Given as goal

abbrev pub invariant-loop-at : goal.invariant-loop-at
invariant-loop-at l = AreWithin true (take l.at (zip l.bounds l.queries)) l.weight

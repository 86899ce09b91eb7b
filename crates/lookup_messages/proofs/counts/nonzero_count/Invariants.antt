use Rattle.std.proofs.Common.{◌≡◌, ◌≤◌, take, length, filter, not}
use Rattle.indexmap.specs.IndexMap.{values}
use Rattle.lookup_messages.proofs.counts.nonzero_count.Given as goal

abbrev pub invariant-loop-index : goal.invariant-loop-index
invariant-loop-index g l = record {
  small : l.count ≤ l.index;
  counted : l.count ≡ length (filter (λ v. not (g.F.PartialEq.eq v g.F.PrimeCharacteristicRing.ring.zero)) (take l.index (values l.nets)));
}

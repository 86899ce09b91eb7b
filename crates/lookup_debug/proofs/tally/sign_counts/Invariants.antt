use Rattle.std.proofs.Common.{drop, map, take}
use Rattle.field.specs.Signs.{is_negative}
use Rattle.lookup_debug.specs.internal.Tallies.{AreSignCounts}
use Rattle.lookup_debug.proofs.tally.sign_counts.Given as goal

abbrev pub invariant-loop-span : goal.invariant-loop-span
invariant-loop-span g l =
    AreSignCounts (is_negative g.F.PrimeCharacteristicRing.CHARACTERISTIC g.F.SignedField.number) (map (λ s. s.amount) (take l.span-index (drop l.start l.contributions.spans.items))) l.sent l.received

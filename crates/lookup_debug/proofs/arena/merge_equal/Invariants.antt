use Rattle.std.proofs.Common.{◌≡◌, take}
use Rattle.lookup_debug.specs.internal.Arena.{AreWithin, amounts_in}
use Rattle.lookup_debug.specs.internal.Nets.{amount_nets}
use Rattle.lookup_debug.proofs.arena.merge_equal.Given as goal

abbrev pub invariant-loop-index : goal.invariant-loop-index
invariant-loop-index g l =
    AreWithin l.merged × (amounts_in l.merged ≡ take l.index (amount_nets g.F.PrimeCharacteristicRing.ring g.F.PartialEq.eq (amounts_in l.contributions)))

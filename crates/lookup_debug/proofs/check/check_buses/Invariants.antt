use Rattle.std.proofs.Common.{map}
use Rattle.std.specs.Borrow.{Bor}
use Rattle.lookup_debug.specs.Contributions.{traced_of}
use Rattle.lookup_debug.specs.Mismatch.{EachBalances}
use Rattle.lookup_debug.proofs.GroupLaws.{first_bus_groups}
use Rattle.lookup_debug.proofs.check.check_buses.Given as goal

abbrev pub invariant-loop-index : goal.invariant-loop-index
invariant-loop-index g l =
    let R = g.F.PrimeCharacteristicRing.ring in
    let eq = g.F.PartialEq.eq in
    EachBalances R eq (first_bus_groups R eq (λ (n : Bor _). n.now) (map traced_of l.instances) l.names.items l.index)

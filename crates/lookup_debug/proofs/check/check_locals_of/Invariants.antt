use Rattle.lookup_debug.specs.Contributions.{traced_of}
use Rattle.lookup_debug.specs.Mismatch.{EachBalances}
use Rattle.lookup_debug.proofs.GroupLaws.{first_local_groups}
use Rattle.lookup_debug.proofs.check.check_locals_of.Given as goal

abbrev pub invariant-loop-index : goal.invariant-loop-index
invariant-loop-index g l =
    let R = g.F.PrimeCharacteristicRing.ring in
    let eq = g.F.PartialEq.eq in
    EachBalances R eq (first_local_groups R eq (l.instance, traced_of l.traced) l.index)

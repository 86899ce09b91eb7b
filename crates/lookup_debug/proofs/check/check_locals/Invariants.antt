use Rattle.std.proofs.Common.{map}
use Rattle.lookup_debug.specs.Contributions.{traced_of}
use Rattle.lookup_debug.specs.Mismatch.{EachBalances}
use Rattle.lookup_debug.proofs.GroupLaws.{first_air_groups}
use Rattle.lookup_debug.proofs.check.check_locals.Given as goal

abbrev pub invariant-loop-instance : goal.invariant-loop-instance
invariant-loop-instance g l =
    let R = g.F.PrimeCharacteristicRing.ring in
    let eq = g.F.PartialEq.eq in
    EachBalances R eq (first_air_groups R eq (map traced_of l.instances) l.instance)

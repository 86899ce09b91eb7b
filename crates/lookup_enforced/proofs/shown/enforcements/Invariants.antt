use Rattle.std.proofs.Common.{take}
use Rattle.std.specs.List.{AllZip}
use Rattle.lookup_enforced.specs.Enforced.{IsEnforcement}
use Rattle.lookup_enforced.proofs.shown.enforcements.Given as goal

abbrev pub invariant-loop-lookup : goal.invariant-loop-lookup
invariant-loop-lookup g l =
    let R = g.F.PrimeCharacteristicRing.ring in
    AllZip (IsEnforcement R g.F.PartialEq.eq l.fn.height l.fn.constraints) (take l.lookup-index l.lookups) l.shown.items

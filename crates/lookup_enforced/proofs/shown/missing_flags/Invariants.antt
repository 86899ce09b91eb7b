use Rattle.std.proofs.Common.{take}
use Rattle.std.specs.List.{AllZip}
use Rattle.lookup_enforced.specs.Enforced.{IsMissing}
use Rattle.lookup_enforced.proofs.shown.missing_flags.Given as goal

abbrev pub invariant-loop-lookup : goal.invariant-loop-lookup
invariant-loop-lookup g l =
    let R = g.F.PrimeCharacteristicRing.ring in
    AllZip (IsMissing R g.F.PartialEq.eq l.fn.height l.fn.constraints) (take l.lookup-index l.lookups) l.missing.items

use Rattle.std.proofs.Common.{◌≡◌, map, take}
use Rattle.std.specs.List.{AllByRecursion}
use Rattle.air_constraints.specs.internal.Bits.{sum_of}
use Rattle.air_constraints.specs.Facts.{IsBit}
use Rattle.air_constraints.specs.Polynomials.{sum_at}
use Rattle.air_expressions.specs.Window.{Window}
use Rattle.lookup_enforced.specs.internal.Shown.{KnownRows}
use Rattle.lookup_model.specs.Sent.{value}
use Rattle.lookup_enforced.proofs.flags.missing_on.Given as goal

abbrev pub invariant-loop-flag : goal.invariant-loop-flag
invariant-loop-flag g l =
    let R = g.F.PrimeCharacteristicRing.ring in
    (w : Window g.row.F.Denot) → KnownRows R l.kind l.facts w
    → AllByRecursion (IsBit R) (map (value R w) (take l.flag l.flags)) × (sum_at R w l.sum.items ≡ sum_of R (map (value R w) (take l.flag l.flags)))

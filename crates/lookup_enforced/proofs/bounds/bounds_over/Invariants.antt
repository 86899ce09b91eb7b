use Rattle.std.proofs.Common.{IfSome, take}
use Rattle.std.specs.List.{AllZip}
use Rattle.air_expressions.specs.Window.{Window}
use Rattle.air_constraints.specs.Bounds.{IsWithin}
use Rattle.lookup_enforced.specs.internal.Shown.{IsAnyOf}
use Rattle.lookup_model.specs.Sent.{value}
use Rattle.lookup_enforced.proofs.bounds.bounds_over.Given as goal

abbrev pub invariant-loop-multiplicity : goal.invariant-loop-multiplicity
invariant-loop-multiplicity g l =
    let R = g.F.PrimeCharacteristicRing.ring in
    AllZip (λ m b. IfSome b (λ n. (w : Window g.row.F.Denot) → IsAnyOf R l.rows w → IsWithin R n (value R w m))) (take l.multiplicity-index l.multiplicities) l.bounds.items

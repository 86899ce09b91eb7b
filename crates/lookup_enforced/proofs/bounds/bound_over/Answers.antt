use Rattle.std.proofs.Common.{IfSome, Option, ℕ, subst}
use Rattle.air_expressions.specs.Window.{Window}
use Rattle.lookup_model.specs.Sent.{value}
use Rattle.air_constraints.specs.Bounds.{IsWithin}
use Rattle.lookup_enforced.specs.internal.Shown.{KnownRows}
use Rattle.lookup_enforced.proofs.RowLaws.{holds_more, within_more}
use Rattle.lookup_enforced.proofs.bounds.bound_over.Goals as goal

pub loop-row-preserved : goal.loop-row-preserved
loop-row-preserved g c =
    let R = g.F.PrimeCharacteristicRing.ring in
    let rows = c.args.rows.now in
    let row = c.row-item.result in
    let v : Window g.row.F.Denot → g.row.F.Denot = λ w. value R w c.args.multiplicity.now in
    let P : Option ℕ → Type 0 = λ o. IfSome o (λ b. (w : Window g.row.F.Denot) → KnownRows R row.kind row.facts w → IsWithin R b (v w)) in
    let here : (w : Window g.row.F.Denot) → KnownRows R row.kind row.facts w → IsWithin R c.in-Some.bound (v w) = subst P c.in-Some.is c.in_ok-bound.ensures in
    holds_more {R = R} (λ w. IsWithin R c.greater-most.result (v w)) rows c.loop-row.row-index row c.loop-row-test.true c.row-item.is
    (λ w any. within_more R (v w) c.loop-row.most c.greater-most.result c.greater-most.ensures.0 (c.loop-row.invariant w any))
    (λ w known. within_more R (v w) c.in-Some.bound c.greater-most.result c.greater-most.ensures.1 (here w known))

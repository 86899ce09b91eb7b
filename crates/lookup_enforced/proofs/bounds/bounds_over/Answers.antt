use Rattle.std.proofs.Common.{IfSome, List, take_all, subst}
use Rattle.std.specs.List.{AllZip}
use Rattle.list_laws.proofs.Zips.{AllZip-more}
use Rattle.air_expressions.specs.Window.{Window}
use Rattle.air_expressions.specs.declared.base_expression.SymbolicExpression.{SymbolicExpression}
use Rattle.lookup_model.specs.Sent.{value}
use Rattle.air_constraints.specs.Bounds.{IsWithin}
use Rattle.lookup_enforced.specs.internal.Shown.{IsAnyOf}
use Rattle.lookup_enforced.proofs.bounds.bounds_over.Goals as goal

pub loop-multiplicity-preserved : goal.loop-multiplicity-preserved
loop-multiplicity-preserved g c =
    let R = g.F.PrimeCharacteristicRing.ring in
    AllZip-more (λ m b. IfSome b (λ n. (w : Window g.row.F.Denot) → IsAnyOf R c.args.rows.now w → IsWithin R n (value R w m)))
    c.args.multiplicities.now c.loop-multiplicity.bounds.items _ c.loop-multiplicity.multiplicity-index c.multiplicity-item.result c.multiplicity-item.result _
    c.loop-multiplicity-test.true c.multiplicity-item.is c.in_ok-push.ensures.items c.in_ok-bound.ensures c.loop-multiplicity.invariant

pub returns : goal.returns
returns g c =
    let R = g.F.PrimeCharacteristicRing.ring in
    let P : List (SymbolicExpression g.row.F.Denot) → Type 0 = λ ms. AllZip (λ m b. IfSome b (λ n. (w : Window g.row.F.Denot) → IsAnyOf R c.args.rows.now w → IsWithin R n (value R w m))) ms c.loop-multiplicity.bounds.items in
    subst P (take_all c.loop-multiplicity.multiplicity-index c.args.multiplicities.now c.loop-multiplicity-test.false) c.loop-multiplicity.invariant

use Rattle.std.proofs.Common.{All, List, Some, [], sym, subst, arith}
use Rattle.std.proofs.lemmas.List.Elements.{All-push}
use Rattle.air.specs.Traces.{air_traces}
use Rattle.air_expressions.specs.declared.base_expression.SymbolicExpression.{SymbolicExpression}
use Rattle.lookup_enforced.specs.Fixed.{ReadsFixed}
use Rattle.air_constraints.specs.Hold.{HoldOn}
use Rattle.lookup_enforced.proofs.FixedLaws.{over_both, over_fixed}
use Rattle.lookup_enforced.proofs.fixed.push_holding.Goals as goal

pub returns-in-Ok : goal.returns-in-Ok
returns-in-Ok g c = λ before.
    let R = g.F.PrimeCharacteristicRing.ring in
    let m = c.args.preprocessed.now in
    let Fixed : List (SymbolicExpression g.row.F.Denot) → Type 0 = All (ReadsFixed R) in
    let none : Fixed [] = λ k d lt. absurd (omega (arith, lt)) in
    let one = subst Fixed (sym c.in_ok-push.ensures.items) (All-push (ReadsFixed R) _ c.args.current (subst Fixed (sym c.new-candidates.ensures.items) none) c.requires.current) in
    let both = subst Fixed (sym c.in_ok-push-2.ensures.items) (All-push (ReadsFixed R) _ c.args.next one c.requires.next) in
    over_both R m c.args.found.now.items _ _ c.in_ok-append-in-Ok.ensures.items before (over_fixed R m _ both
    (subst (HoldOn R (air_traces m (Some m) [])) c.as_slice.ensures.value c.in-Ok.ensures))

use Rattle.std.proofs.Common.{map, take}
use Rattle.air_expressions.specs.Window.{ExtWindow}
use Rattle.lookup_constraints.specs.Asserted.{Asserts, IsConstraint}
use Rattle.lookup_model.specs.Constraints.{fraction_constraint}
use Rattle.field.specs.laws.Extension.{of_laws}
use Rattle.lookup.proofs.protocol.eval_fractions.Given as goal

abbrev pub invariant-loop-lookup : goal.invariant-loop-lookup
invariant-loop-lookup g l =
    let E = of_laws g.met.AB.EF.ExtensionField.lawful_fields in
    let value : g.row.AB-ExprEF.Denot → ExtWindow g.row.AB-F.Denot g.row.AB-EF.Denot → g.row.AB-EF.Denot = λ x w. g.AB.ExprEF.Expression.value x (g.AB.ExtensionBuilder.seen_ext w) in
    Asserts g.AB.ExtensionBuilder.accepts_ext (IsConstraint value g.AB.ExprEF.Expression.degree (g.AB.ExtensionBuilder.stands_for_ext l.initial.builder)) l.initial.builder (map (fraction_constraint E) (take l.lookup-index l.lookups)) l.builder

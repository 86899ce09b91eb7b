use Rattle.field.specs.laws.Extension.{of_laws}
use Rattle.lookup_constraints.specs.internal.Quotients.{IsQuotient}
use Rattle.lookup_constraints.proofs.Meanings.{On}
use Rattle.lookup_constraints.proofs.Quotients.{additive_up_to}
use Rattle.lookup_constraints.proofs.additive.additive_quotient.Given as goal

abbrev pub invariant-loop-branch : goal.invariant-loop-branch
invariant-loop-branch g l =
    IsQuotient (On (λ x w. g.AB.ExprEF.Expression.value x (g.AB.ExtensionBuilder.seen_ext w)) g.AB.ExprEF.Expression.degree (g.AB.ExtensionBuilder.stands_for_ext l.row.builder.now))
    (additive_up_to (of_laws g.met.AB.EF.ExtensionField.lawful_fields) l.row.lookup.now l.branch) l.quotient

use Rattle.std.proofs.Common.{take}
use Rattle.field.specs.laws.Extension.{of_laws}
use Rattle.lookup_constraints.specs.internal.Meanings.{tuple_meaning}
use Rattle.lookup_constraints.proofs.Meanings.{On}
use Rattle.lookup_constraints.proofs.row.combined_tuple.Given as goal

abbrev pub invariant-loop-element : goal.invariant-loop-element
invariant-loop-element g l =
    On (λ x w. g.AB.ExprEF.Expression.value x (g.AB.ExtensionBuilder.seen_ext w)) g.AB.ExprEF.Expression.degree (g.AB.ExtensionBuilder.stands_for_ext l.row.builder.now)
    (tuple_meaning (of_laws g.met.AB.EF.ExtensionField.lawful_fields) l.row.lookup.now.column (take l.element-index l.tuple)) l.sum

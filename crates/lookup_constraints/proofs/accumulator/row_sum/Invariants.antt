use Rattle.std.proofs.Common.{take}
use Rattle.field.specs.laws.Extension.{of_laws}
use Rattle.lookup_constraints.specs.internal.Meanings.{cell_meaning}
use Rattle.lookup_constraints.proofs.Meanings.{On}
use Rattle.lookup_model.specs.Constraints.{fractions_at}
use Rattle.lookup_constraints.proofs.accumulator.row_sum.Given as goal

abbrev pub invariant-loop-lookup : goal.invariant-loop-lookup
invariant-loop-lookup g l =
    On (λ x w. g.AB.ExprEF.Expression.value x (g.AB.ExtensionBuilder.seen_ext w)) g.AB.ExprEF.Expression.degree (g.AB.ExtensionBuilder.stands_for_ext l.builder)
    (cell_meaning (fractions_at (of_laws g.met.AB.EF.ExtensionField.lawful_fields) (take l.lookup-index l.lookups))) l.sum

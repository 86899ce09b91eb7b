use Rattle.std.proofs.Common.{take}
use Rattle.field.specs.laws.Extension.{of_laws}
use Rattle.lookup_constraints.specs.internal.Selections.{IsSelection, branch_sums}
use Rattle.lookup_constraints.proofs.Meanings.{On}
use Rattle.lookup_constraints.proofs.exclusive.branch_sums.Given as goal

abbrev pub invariant-loop-branch : goal.invariant-loop-branch
invariant-loop-branch g l =
    IsSelection (On (λ x w. g.AB.ExprEF.Expression.value x (g.AB.ExtensionBuilder.seen_ext w)) g.AB.ExprEF.Expression.degree (g.AB.ExtensionBuilder.stands_for_ext l.row.builder.now))
    (branch_sums (of_laws g.met.AB.EF.ExtensionField.lawful_fields) l.row.lookup.now (take l.branch l.flags)) l.selection

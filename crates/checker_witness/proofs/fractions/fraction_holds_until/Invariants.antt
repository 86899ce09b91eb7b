use Rattle.std.proofs.Common.{ℕ, ◌<◌, ◌≤◌}
use Rattle.field.specs.laws.Extension.{of_laws}
use Rattle.checker_witness.specs.internal.Rows.{FractionHolds}
use Rattle.checker_witness.proofs.fractions.fraction_holds_until.Given as goal

abbrev pub invariant-loop-row : goal.invariant-loop-row
invariant-loop-row g l =
    (s : ℕ) → l.first ≤ s → s < l.row → FractionHolds (of_laws g.met.EF.ExtensionField.lawful_fields) l.inputs l.lookup s

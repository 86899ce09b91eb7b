use Rattle.std.proofs.Common.{ℕ, ◌-◌, ◌<◌, ◌≤◌}
use Rattle.field.specs.laws.Extension.{of_laws}
use Rattle.checker_witness.specs.internal.Rows.{HoldsOn}
use Rattle.checker_witness.proofs.chunks.chunks_hold_until.Given as goal

abbrev pub invariant-loop-next : goal.invariant-loop-next
invariant-loop-next g l =
    let E = of_laws g.met.EF.ExtensionField.lawful_fields in
    (l.first ≤ l.next) × (l.next ≤ l.end) × ((s : ℕ) → l.first ≤ s → s < l.next → HoldsOn E l.inputs l.lookups s)

abbrev pub decreases-loop-next : goal.decreases-loop-next
decreases-loop-next g l = l.end - l.next

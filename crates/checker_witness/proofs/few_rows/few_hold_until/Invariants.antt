use Rattle.std.proofs.Common.{ℕ, ◌<◌, ◌≤◌, Some}
use Rattle.field.specs.laws.Extension.{of_laws}
use Rattle.lookup_model.specs.Batches.Instances.{instance_of}
use Rattle.lookup_model.specs.Witness.{HoldsOnRow}
use Rattle.checker_witness.proofs.few_rows.few_hold_until.Given as goal

abbrev pub invariant-loop-row : goal.invariant-loop-row
invariant-loop-row g l =
    let i = instance_of l.instance in
    (s : ℕ) → l.fn.first ≤ s → s < l.row → HoldsOnRow (of_laws g.met.EF.ExtensionField.lawful_fields) i.traces i.lookups l.challenges l.aux (Some l.fn.terminal) s

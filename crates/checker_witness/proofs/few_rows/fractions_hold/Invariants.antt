use Rattle.std.proofs.Common.{take}
use Rattle.std.specs.List.{AllByRecursion}
use Rattle.field.specs.laws.Extension.{of_laws}
use Rattle.checker_witness.specs.internal.Rows.{FractionHoldsAt}
use Rattle.checker_witness.specs.internal.TraceRows.{trace_window, window_over}
use Rattle.checker_witness.proofs.few_rows.fractions_hold.Given as goal

abbrev pub invariant-loop-lookup : goal.invariant-loop-lookup
invariant-loop-lookup g l =
    AllByRecursion (FractionHoldsAt (of_laws g.met.EF.ExtensionField.lawful_fields) (window_over (trace_window l.row) l.cells l.challenges)) (take l.lookup-index l.lookups)

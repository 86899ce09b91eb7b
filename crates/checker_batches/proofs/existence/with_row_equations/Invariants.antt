use Rattle.std.proofs.Common.{List, ◌++◌, take}
use Rattle.field.specs.laws.Extension.{of_laws}
use Rattle.lookup_model.specs.internal.Equations.{Equation, row_equations}
use Rattle.lookup_messages.specs.TraceBuilder.{ext_builder_window}
use Rattle.checker_batches.specs.internal.Sums.{AreSums}
use Rattle.checker_batches.proofs.existence.with_row_equations.Given as goal

abbrev pub invariant-loop-lookup : goal.invariant-loop-lookup
invariant-loop-lookup g l =
    let E = of_laws g.met.EF.ExtensionField.lawful_fields in
    (equations : List (Equation _)) → AreSums E.ring equations l.fn.sums
    → AreSums E.ring (equations ++ take l.lookup-index (row_equations E (ext_builder_window l.builder) l.lookups)) l.so_far

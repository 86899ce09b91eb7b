use Rattle.std.proofs.Common.{List, ◌++◌}
use Rattle.std.specs.List.{flat_map, range_with_len}
use Rattle.lookup_model.specs.Challenges.{table_of}
use Rattle.field.specs.laws.Extension.{of_laws}
use Rattle.lookup_model.specs.Batches.Instances.{instance_of}
use Rattle.lookup_model.specs.internal.Equations.{Equation, challenged_window, row_equations}
use Rattle.checker_batches.specs.internal.Sums.{AreSums}
use Rattle.checker_batches.proofs.existence.with_air_equations.Given as goal

abbrev pub invariant-loop-row : goal.invariant-loop-row
invariant-loop-row g l =
    let E = of_laws g.met.EF.ExtensionField.lawful_fields in
    let i = instance_of l.instance in
    (equations : List (Equation _)) → AreSums E.ring equations l.fn.sums
    → AreSums E.ring (equations ++ flat_map (λ r. row_equations E (challenged_window E (table_of l.challenges) i r) i.lookups) (range_with_len 0 l.row)) l.so_far

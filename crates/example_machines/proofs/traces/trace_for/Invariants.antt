use Rattle.std.proofs.Common.{◌≡◌}
use Rattle.std.specs.List.{flat_map, range_with_len}
use Rattle.matrix.specs.Matrix.{row}
use Rattle.example_machines.specs.Machines.{machine_air_cells}
use Rattle.example_machines.proofs.traces.trace_for.Given as goal

abbrev pub invariant-loop-row : goal.invariant-loop-row
invariant-loop-row g l = l.values.items ≡ flat_map (λ r. machine_air_cells l.air (row l.input r)) (range_with_len 0 l.row)

use Rattle.std.proofs.Common.{◌≡◌, length, take}
use Rattle.std.specs.List.{flat_map}
use Rattle.c_calls.specs.Outputs.{output_cells}
use Rattle.c_calls.proofs.outputs.write_traces.Given as goal

abbrev pub invariant-loop-trace : goal.invariant-loop-trace
invariant-loop-trace g l = record {
  at_is : l.at ≡ length (flat_map output_cells (take l.trace-index l.traces));
  written : take l.at l.cells ≡ flat_map output_cells (take l.trace-index l.traces);
}

use Rattle.std.proofs.Common.{◌≡◌, map, take}
use Rattle.c_calls.specs.Outputs.{terminal_numbers}
use Rattle.c_calls.proofs.outputs.write_terminals.Given as goal

abbrev pub invariant-loop-index : goal.invariant-loop-index
invariant-loop-index g l = take l.index l.terminals ≡ map terminal_numbers (take l.index l.values)

use Rattle.std.proofs.Common.{◌≡◌, ◌++◌, drop, take}
use Rattle.c_calls.proofs.written_tables.write_items.Given as goal

abbrev pub invariant-loop-index : goal.invariant-loop-index
invariant-loop-index g l = l.array ≡ take l.index l.values ++ drop l.index l.initial.array

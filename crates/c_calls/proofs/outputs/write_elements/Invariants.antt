use Rattle.std.proofs.Common.{◌≡◌, ◌+◌, ◌++◌, map, take}
use Rattle.c_tables.specs.Numbers.{numbers_of}
use Rattle.c_calls.proofs.outputs.write_elements.Given as goal

abbrev pub invariant-loop-index : goal.invariant-loop-index
invariant-loop-index g l = take (l.at + l.index) l.cells ≡ take l.at l.initial.cells ++ map numbers_of (take l.index l.values)

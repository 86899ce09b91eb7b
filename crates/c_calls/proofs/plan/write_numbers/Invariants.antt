use Rattle.std.proofs.Common.{◌≡◌, ◌+◌, ◌++◌, take}
use Rattle.c_calls.proofs.plan.write_numbers.Given as goal

abbrev pub invariant-loop-index : goal.invariant-loop-index
invariant-loop-index l = take (l.at + l.index) l.numbers ≡ take l.at l.initial.numbers ++ take l.index l.values

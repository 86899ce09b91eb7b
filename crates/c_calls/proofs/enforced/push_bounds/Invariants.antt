use Rattle.std.proofs.Common.{◌≡◌, ◌++◌, map, take}
use Rattle.c_calls.specs.Enforced.{bound_numbers}
use Rattle.c_calls.proofs.enforced.push_bounds.Given as goal

abbrev pub invariant-loop-bound : goal.invariant-loop-bound
invariant-loop-bound l = l.numbers.items ≡ l.initial.numbers.items ++ map bound_numbers (take l.bound-index l.bounds)

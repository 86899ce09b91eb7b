use Rattle.std.proofs.Common.{◌≡◌, ◌++◌, map, take}
use Rattle.std.specs.List.{flat_map}
use Rattle.c_calls.specs.GroupNumbers.{tuple_numbers}
use Rattle.c_calls.proofs.group_numbers.push_tuples.Given as goal

abbrev pub invariant-loop-unbalanced : goal.invariant-loop-unbalanced
invariant-loop-unbalanced g l = l.numbers.items ≡ l.initial.numbers.items ++ flat_map tuple_numbers (take l.unbalanced-index l.tuples)

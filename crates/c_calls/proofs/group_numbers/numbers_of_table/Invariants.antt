use Rattle.std.proofs.Common.{◌≡◌, ◌∷◌, length, take}
use Rattle.std.specs.List.{flat_map}
use Rattle.c_calls.specs.GroupNumbers.{group_numbers}
use Rattle.c_calls.proofs.group_numbers.numbers_of_table.Given as goal

abbrev pub invariant-loop-group : goal.invariant-loop-group
invariant-loop-group g l = l.numbers.items ≡ length l.groups ∷ flat_map group_numbers (take l.group-index l.groups)

use Rattle.std.proofs.Common.{◌≡◌, ◌++◌, map, take}
use Rattle.std.specs.List.{flat_map}
use Rattle.c_calls.specs.GroupNumbers.{element_number}
use Rattle.c_calls.proofs.group_numbers.push_elements.Given as goal

abbrev pub invariant-loop-element : goal.invariant-loop-element
invariant-loop-element g l = l.numbers.items ≡ l.initial.numbers.items ++ map element_number (take l.element-index l.elements)

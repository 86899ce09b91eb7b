use Rattle.std.proofs.Common.{◌≡◌, ◌++◌, map, take}
use Rattle.std.specs.List.{flat_map}
use Rattle.c_calls.specs.GroupNumbers.{place_numbers}
use Rattle.c_calls.proofs.group_numbers.push_places.Given as goal

abbrev pub invariant-loop-place : goal.invariant-loop-place
invariant-loop-place g l = l.numbers.items ≡ l.initial.numbers.items ++ flat_map place_numbers (take l.place-index l.places)

use Rattle.std.proofs.Common.{◌≡◌, take}
use Rattle.std.specs.List.{flat_map}
use Rattle.c_calls.specs.Enforced.{bound_list}
use Rattle.c_calls.proofs.enforced.bounds_of.Given as goal

abbrev pub invariant-loop-one : goal.invariant-loop-one
invariant-loop-one l = l.numbers.items ≡ flat_map bound_list (take l.one-index l.shown)

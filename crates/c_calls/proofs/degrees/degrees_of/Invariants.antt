use Rattle.std.proofs.Common.{◌≡◌, map, take}
use Rattle.lookup_model.specs.LookupDegree.{lookup_degree}
use Rattle.c_calls.proofs.degrees.degrees_of.Given as goal

abbrev pub invariant-loop-lookup : goal.invariant-loop-lookup
invariant-loop-lookup g l = l.degrees.items ≡ map (lookup_degree l.transition_degree) (take l.lookup-index l.lookups)

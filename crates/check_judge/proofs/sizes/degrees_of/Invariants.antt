use Rattle.std.proofs.Common.{◌≡◌, map, take}
use Rattle.lookup.specs.Lookups.{lookups_of}
use Rattle.lookup_model.specs.LookupDegree.{lookup_degree}
use Rattle.check_judge.proofs.sizes.degrees_of.Given as goal

abbrev pub invariant-loop-lookup : goal.invariant-loop-lookup
invariant-loop-lookup g l = l.degrees.items ≡ map (lookup_degree 0) (take l.lookup-index (lookups_of l.lookups))

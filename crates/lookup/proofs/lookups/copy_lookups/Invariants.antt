use Rattle.std.proofs.Common.{◌≡◌, map, take}
use Rattle.lookup_model.specs.Outline.{outline_of}
use Rattle.lookup.proofs.lookups.copy_lookups.Given as goal

abbrev pub invariant-loop-lookup : goal.invariant-loop-lookup
invariant-loop-lookup g l = map outline_of l.copies.items ≡ map outline_of (take l.lookup-index l.lookups)

use Rattle.std.proofs.Common.{◌≡◌, ◌++◌, drop, map}
use Rattle.lookup.specs.Lookups.{lookups_of}
use Rattle.language_meaning.specs.Shapes.{shape_of}
use Rattle.check_judge.specs.Found.{sized_over}
use Rattle.check_judge.specs.internal.Sizes.{sized_lookups_of}
use Rattle.check_judge.proofs.plan.sized_airs.Given as goal

-- the AIRs so far and those of the lookups that are left are those of all
abbrev pub invariant-loop-index : goal.invariant-loop-index
invariant-loop-index g l = map sized_lookups_of l.airs.items ++ sized_over (map lookups_of (drop l.index l.sets)) (map shape_of (drop l.index l.shapes)) ≡ sized_over (map lookups_of l.sets) (map shape_of l.shapes)

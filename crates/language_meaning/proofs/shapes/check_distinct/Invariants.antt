use Rattle.std.proofs.Common.{◌≡◌, [], drop, take}
use Rattle.language_meaning.specs.Shapes.{distinct_names}
use Rattle.language_meaning.proofs.shapes.check_distinct.Given as goal

-- whether the names that are left are new after those so far is whether all are distinct
abbrev pub invariant-loop-index : goal.invariant-loop-index
invariant-loop-index l = distinct_names l.text (take l.index l.names) (drop l.index l.names) ≡ distinct_names l.text [] l.names

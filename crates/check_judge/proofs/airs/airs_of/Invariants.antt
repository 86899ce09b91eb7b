use Rattle.std.proofs.Common.{◌≡◌, ◌++◌, drop, map}
use Rattle.language.specs.Batches.{air_of, section_of}
use Rattle.check_judge.specs.Said.{airs_of}
use Rattle.check_judge.proofs.airs.airs_of.Given as goal

-- the AIRs so far and those of the sections that are left are those of all
abbrev pub invariant-loop-section : goal.invariant-loop-section
invariant-loop-section l = let sections = l.batch.sections.items in map (λ a. air_of a.now) l.airs.items ++ airs_of (map section_of (drop l.section-index sections)) ≡ airs_of (map section_of sections)

use Rattle.std.proofs.Common.{◌≡◌, ◌++◌, drop, map}
use Rattle.language.specs.Batches.{section_of}
use Rattle.language_meaning.specs.Files.{files_in}
use Rattle.language_meaning.specs.Tables.{names_in}
use Rattle.language_meaning.proofs.files.files_of.Given as goal

-- the files so far and those of the sections that are left are those of all
abbrev pub invariant-loop-section : goal.invariant-loop-section
invariant-loop-section l = let sections = l.batch.sections.items in names_in l.files.items ++ files_in l.text (map section_of (drop l.section-index sections)) ≡ files_in l.text (map section_of sections)

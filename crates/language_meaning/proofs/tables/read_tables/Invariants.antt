use Rattle.std.proofs.Common.{◌≡◌, drop, map}
use Rattle.language.specs.Batches.{section_of}
use Rattle.language_meaning.specs.Files.{named_of}
use Rattle.language_meaning.specs.Tables.{all_tables, tables_of}
use Rattle.language_meaning.proofs.TableLaws.{with_tables}
use Rattle.language_meaning.proofs.tables.read_tables.Given as goal

-- the tables so far and those of the sections that are left are those of all
abbrev pub invariant-loop-section : goal.invariant-loop-section
invariant-loop-section l = let sections = l.batch.sections.items in let files = map named_of l.files in with_tables (map tables_of l.tables.items) (all_tables l.text files l.modulus (map section_of (drop l.section-index sections))) ≡ all_tables l.text files l.modulus (map section_of sections)

use Rattle.std.proofs.Common.{◌≡◌, drop, map}
use Rattle.language.specs.Batches.{section_of}
use Rattle.language_meaning.specs.Files.{named_of}
use Rattle.language_meaning.specs.Shapes.{all_shapes, shape_of}
use Rattle.language_meaning.proofs.ShapeLaws.{with_shapes}
use Rattle.language_meaning.proofs.shapes.read_shapes.Given as goal

-- the shapes so far and those of the sections that are left are those of all
abbrev pub invariant-loop-section : goal.invariant-loop-section
invariant-loop-section l = let sections = l.batch.sections.items in let files = map named_of l.files in with_shapes (map shape_of l.shapes.items) (all_shapes l.text files l.modulus (map section_of (drop l.section-index sections))) ≡ all_shapes l.text files l.modulus (map section_of sections)

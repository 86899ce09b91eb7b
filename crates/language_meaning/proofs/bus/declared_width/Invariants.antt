use Rattle.std.proofs.Common.{◌≡◌, drop, map}
use Rattle.language.specs.Batches.{section_of}
use Rattle.language_meaning.specs.Buses.{buses_of, declared_width}
use Rattle.language_meaning.proofs.bus.declared_width.Given as goal

abbrev pub invariant-loop-section : goal.invariant-loop-section
invariant-loop-section l = declared_width l.text l.name (buses_of (map section_of (drop l.section-index l.sections))) ≡ declared_width l.text l.name (buses_of (map section_of l.sections))

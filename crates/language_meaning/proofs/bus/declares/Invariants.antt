use Rattle.std.proofs.Common.{◌≡◌, drop, map}
use Rattle.language.specs.Batches.{section_of}
use Rattle.language_meaning.specs.Buses.{buses_of, declares_any}
use Rattle.language_meaning.proofs.bus.declares.Given as goal

abbrev pub invariant-loop-section : goal.invariant-loop-section
invariant-loop-section l = declares_any (buses_of (map section_of (drop l.section-index l.sections))) ≡ declares_any (buses_of (map section_of l.sections))

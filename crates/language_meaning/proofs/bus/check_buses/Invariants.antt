use Rattle.std.proofs.Common.{◌≡◌, drop, map, take}
use Rattle.language.specs.Batches.{section_of}
use Rattle.language_meaning.specs.Buses.{buses_of, distinct_after, distinct_buses}
use Rattle.language_meaning.proofs.bus.check_buses.Given as goal

-- none of the buses so far stood before, and so the answer lies in those that are left
abbrev pub invariant-loop-index : goal.invariant-loop-index
invariant-loop-index l = let sections = l.batch.sections.items in distinct_after l.text (buses_of (map section_of (take l.index sections))) (buses_of (map section_of (drop l.index sections))) ≡ distinct_buses l.text (map section_of sections)

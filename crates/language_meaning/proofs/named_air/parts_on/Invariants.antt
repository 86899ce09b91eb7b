use Rattle.std.proofs.Common.{◌≡◌, drop, map}
use Rattle.language.specs.Batches.{section_of}
use Rattle.language.specs.Items.{group_part_of as said_part}
use Rattle.language_meaning.specs.Lookups.{sent_part_of, parts_on}
use Rattle.language_meaning.specs.Scopes.{names_of}
use Rattle.language_meaning.proofs.LookupLaws.{with_parts}
use Rattle.language_meaning.proofs.named_air.parts_on.Given as goal

-- the messages so far and those of the parts that are left are those of all
abbrev pub invariant-loop-part : goal.invariant-loop-part
invariant-loop-part l = let sections = map section_of l.sections in with_parts (map sent_part_of l.named.items) (parts_on sections (names_of l.scope) l.bus (map said_part (drop l.part-index l.parts)) l.left) ≡ parts_on sections (names_of l.scope) l.bus (map said_part l.parts) l.initial.left

use Rattle.std.proofs.Common.{◌≡◌, drop, length, map}
use Rattle.language.specs.Batches.{section_of}
use Rattle.language.specs.Items.{placed_of}
use Rattle.language_meaning.specs.Lookups.{column_of, constraint_of, said_by_items}
use Rattle.language_meaning.specs.Scopes.{defined_of, names_for}
use Rattle.language_meaning.proofs.LookupLaws.{names_with, with_said}
use Rattle.language_meaning.proofs.named_air.lookups_of.Given as goal

-- what is said so far and what the items say that are left is what all say
abbrev pub invariant-loop-item : goal.invariant-loop-item
invariant-loop-item l =
    let sections = map section_of l.batch.sections.items in
    let names = names_for l.text l.columns l.preprocessed in
    with_said (map column_of l.lookups.items) l.publics.items (map constraint_of l.constraints.items)
    (said_by_items sections (names_with names (map defined_of l.defined.items)) (length l.publics.items) (map placed_of (drop l.item-index l.air.items.items)) l.left)
    ≡ said_by_items sections names 0 (map placed_of l.air.items.items) l.initial.left

use Rattle.std.proofs.Common.{◌≡◌, ◌++◌, drop, map}
use Rattle.language.specs.Items.{placed_of}
use Rattle.language_meaning.specs.Files.{files_of_items}
use Rattle.language_meaning.specs.Tables.{names_in}
use Rattle.language_meaning.proofs.files.push_files.Given as goal

-- the files so far and those of the items that are left are those before and those of all items
abbrev pub invariant-loop-item : goal.invariant-loop-item
invariant-loop-item l = names_in l.files.items ++ files_of_items l.text (map placed_of (drop l.item-index l.items)) ≡ names_in l.initial.files.items ++ files_of_items l.text (map placed_of l.items)

use Rattle.std.proofs.Common.{◌≡◌, None, drop, map}
use Rattle.language.specs.Items.{placed_of}
use Rattle.language_meaning.specs.declared.table_fault.TableWhy.TheVariants.{RepeatedHeight}
use Rattle.language_meaning.specs.Shapes.{height_in}
use Rattle.language_meaning.specs.Tables.{one_of}
use Rattle.language_meaning.proofs.shapes.one_height.Given as goal

-- what the items that are left say after what is found is what all say
abbrev pub invariant-loop-item : goal.invariant-loop-item
invariant-loop-item l = one_of height_in RepeatedHeight l.found (map placed_of (drop l.item-index l.items)) ≡ one_of height_in RepeatedHeight None (map placed_of l.items)

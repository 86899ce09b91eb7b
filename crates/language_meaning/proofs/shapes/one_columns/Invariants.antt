use Rattle.std.proofs.Common.{◌≡◌, None, drop, map, option_map}
use Rattle.language.specs.Items.{placed_of}
use Rattle.language_meaning.specs.declared.table_fault.TableWhy.TheVariants.{RepeatedColumns}
use Rattle.language_meaning.specs.Shapes.{columns_in}
use Rattle.language_meaning.specs.Tables.{one_of}
use Rattle.language_meaning.proofs.shapes.one_columns.Given as goal

-- what the items that are left say after what is found is what all say
abbrev pub invariant-loop-item : goal.invariant-loop-item
invariant-loop-item l = one_of columns_in RepeatedColumns (option_map (λ x. x.now) l.found) (map placed_of (drop l.item-index l.items)) ≡ one_of columns_in RepeatedColumns None (map placed_of l.items)

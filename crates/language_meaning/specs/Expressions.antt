-- Values as the trees of expressions, over elements that numbers stand for.
use Rattle.std.specs.Prelude.{ℕ}
use Rattle.air_expressions.specs.Tree.{Tree, leaf, add, sub, mul, neg}
use Rattle.air_expressions.specs.declared.base_expression.BaseLeaf.TheVariants.{Variable, IsFirstRow, IsLastRow, IsTransition, Constant}
use Rattle.air_expressions.specs.declared.variable.BaseEntry.{BaseEntry}
use Rattle.air_expressions.specs.declared.variable.BaseEntry.TheVariants as entries
use Rattle.language_meaning.specs.Values.{Meant}
use Rattle.language_meaning.specs.Values as values

-- a cell of a window, or a public value
abbrev pub cell_in : {F : Type 0} → BaseEntry → ℕ → Tree F
cell_in entry index = leaf (Variable (record { entry = entry; index = index; field = record {} }))

-- the tree of a value, where each number stands for an element
abbrev pub tree_in : {F : Type 0} → (ℕ → F) → Meant → Tree F
tree_in element (values.main offset column) = cell_in (entries.Main offset) column
tree_in element (values.preprocessed offset column) = cell_in (entries.Preprocessed offset) column
tree_in element (values.public index) = cell_in entries.Public index
tree_in element values.first_row = leaf IsFirstRow
tree_in element values.last_row = leaf IsLastRow
tree_in element values.transition = leaf IsTransition
tree_in element (values.number n) = leaf (Constant (element n))
tree_in element (values.negative m) = neg (tree_in element m)
tree_in element (values.sum m n) = add (tree_in element m) (tree_in element n)
tree_in element (values.difference m n) = sub (tree_in element m) (tree_in element n)
tree_in element (values.product m n) = mul (tree_in element m) (tree_in element n)

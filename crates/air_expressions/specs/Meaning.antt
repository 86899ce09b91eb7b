-- The value of an expression at a window, by recursion on its tree.
use Rattle.std.specs.Prelude.{ℕ, zero, suc, List, [], slice_index_or}
use Rattle.field.specs.Ring.{Ring, of_bool, sub_in}
use Rattle.air_expressions.specs.declared.base_expression.BaseLeaf.{BaseLeaf}
use Rattle.air_expressions.specs.declared.base_expression.BaseLeaf.TheVariants.{Variable, IsFirstRow, IsLastRow, IsTransition, Constant}
use Rattle.air_expressions.specs.declared.variable.BaseEntry.{BaseEntry}
use Rattle.air_expressions.specs.declared.variable.BaseEntry.TheVariants.{Preprocessed, Main, Public}
use Rattle.air_expressions.specs.declared.variable.SymbolicVariable.{SymbolicVariable}
use Rattle.air_expressions.specs.Tree.{Tree, leaf, add, sub, mul, neg}
use Rattle.air_expressions.specs.Window.{Window}

-- the current row at offset 0, the next one at offset 1, and no cells at other offsets
abbrev pub row_at : {F : Type 0} → ℕ → List F → List F → List F
row_at zero current next = current
row_at (suc zero) current next = next
row_at (suc (suc _)) current next = []

-- the list in which an entry is looked up
abbrev pub cells_of : {F : Type 0} → Window F → BaseEntry → List F
cells_of w (Preprocessed offset) = row_at offset w.preprocessed w.preprocessed_next
cells_of w (Main offset) = row_at offset w.main w.main_next
cells_of w Public = w.public_values

-- the value of a variable: its cell, or zero past the end of the row
abbrev pub variable_value : {F : Type 0} → Ring F → Window F → SymbolicVariable F → F
variable_value R w v = slice_index_or (cells_of w v.entry) v.index R.zero

-- the value of a leaf; a selector is one on the rows that it selects, otherwise zero
abbrev pub leaf_value : {F : Type 0} → Ring F → Window F → BaseLeaf F → F
leaf_value R w (Variable v) = variable_value R w v
leaf_value R w IsFirstRow = of_bool R w.is_first
leaf_value R w IsLastRow = of_bool R w.is_last
leaf_value R w IsTransition = of_bool R w.is_transition
leaf_value R w (Constant c) = c

-- the value of a tree: the operations are those of the ring
abbrev pub value_of : {F : Type 0} → Ring F → Window F → Tree F → F
value_of R w (leaf l) = leaf_value R w l
value_of R w (add a b) = R.add (value_of R w a) (value_of R w b)
value_of R w (sub a b) = sub_in R (value_of R w a) (value_of R w b)
value_of R w (mul a b) = R.mul (value_of R w a) (value_of R w b)
value_of R w (neg a) = R.neg (value_of R w a)

-- The value of an extension expression at a window, by recursion on its tree.
use Rattle.std.specs.Prelude.{List, slice_index_or}
use Rattle.field.specs.Ring.{Ring, sub_in}
use Rattle.air_expressions.specs.ExtTree.{ExtTree, base, variable, constant, add, sub, mul, neg}
use Rattle.air_expressions.specs.Meaning.{row_at, value_of}
use Rattle.air_expressions.specs.Window.{ExtWindow}
use Rattle.air_expressions.specs.declared.variable.ExtEntry.{ExtEntry}
use Rattle.air_expressions.specs.declared.variable.ExtEntry.TheVariants.{Permutation, Challenge, PermutationValue}
use Rattle.air_expressions.specs.declared.variable.SymbolicVariableExt.{SymbolicVariableExt}

-- the list in which an entry is looked up
abbrev pub ext_cells_of : {F EF : Type 0} → ExtWindow F EF → ExtEntry → List EF
ext_cells_of w (Permutation offset) = row_at offset w.permutation w.permutation_next
ext_cells_of w Challenge = w.challenges
ext_cells_of w PermutationValue = w.permutation_values

-- the value of a variable: its cell, or zero past the end of the row
abbrev pub ext_variable_value : {F EF : Type 0} → Ring EF → ExtWindow F EF → SymbolicVariableExt F EF → EF
ext_variable_value S w v = slice_index_or (ext_cells_of w v.entry) v.index S.zero

-- The value of a tree: base expressions are embedded, and the operations are those of the
-- extension.
abbrev pub ext_value_of : {F EF : Type 0} → Ring F → Ring EF → (F → EF) → ExtWindow F EF → ExtTree F EF → EF
ext_value_of R S embed w (base e) = embed (value_of R w.base e)
ext_value_of R S embed w (variable v) = ext_variable_value S w v
ext_value_of R S embed w (constant c) = c
ext_value_of R S embed w (add a b) = S.add (ext_value_of R S embed w a) (ext_value_of R S embed w b)
ext_value_of R S embed w (sub a b) = sub_in S (ext_value_of R S embed w a) (ext_value_of R S embed w b)
ext_value_of R S embed w (mul a b) = S.mul (ext_value_of R S embed w a) (ext_value_of R S embed w b)
ext_value_of R S embed w (neg a) = S.neg (ext_value_of R S embed w a)

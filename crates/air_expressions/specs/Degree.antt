-- The degree of an expression in the variables of a window.
use Rattle.std.specs.Prelude.{ℕ, ◌+◌, max}
use Rattle.air_expressions.specs.declared.base_expression.BaseLeaf.{BaseLeaf}
use Rattle.air_expressions.specs.declared.base_expression.BaseLeaf.TheVariants.{Variable, IsFirstRow, IsLastRow, IsTransition, Constant}
use Rattle.air_expressions.specs.declared.variable.BaseEntry.{BaseEntry}
use Rattle.air_expressions.specs.declared.variable.BaseEntry.TheVariants.{Preprocessed, Main, Public}
use Rattle.air_expressions.specs.Tree.{Tree, leaf, add, sub, mul, neg}

-- a cell of a trace has degree 1, a public value 0
abbrev pub entry_degree : BaseEntry → ℕ
entry_degree (Preprocessed offset) = 1
entry_degree (Main offset) = 1
entry_degree Public = 0

-- the selectors of the first and the last row have degree 1, the transition selector has degree t
abbrev pub leaf_degree : {F : Type 0} → ℕ → BaseLeaf F → ℕ
leaf_degree t (Variable v) = entry_degree v.entry
leaf_degree t IsFirstRow = 1
leaf_degree t IsLastRow = 1
leaf_degree t IsTransition = t
leaf_degree t (Constant c) = 0

-- The degree of a tree if the transition selector has degree t. A sum and a difference have the
-- greater degree of both sides, a product the sum.
abbrev pub degree_of : {F : Type 0} → ℕ → Tree F → ℕ
degree_of t (leaf l) = leaf_degree t l
degree_of t (add a b) = max (degree_of t a) (degree_of t b)
degree_of t (sub a b) = max (degree_of t a) (degree_of t b)
degree_of t (mul a b) = degree_of t a + degree_of t b
degree_of t (neg a) = degree_of t a

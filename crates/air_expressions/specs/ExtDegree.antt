-- The degree of an extension expression in the variables of a window.
use Rattle.std.specs.Prelude.{ℕ, ◌+◌, max}
use Rattle.air_expressions.specs.Degree.{degree_of}
use Rattle.air_expressions.specs.ExtTree.{ExtTree, base, variable, constant, add, sub, mul, neg}
use Rattle.air_expressions.specs.declared.variable.ExtEntry.{ExtEntry}
use Rattle.air_expressions.specs.declared.variable.ExtEntry.TheVariants.{Permutation, Challenge, PermutationValue}

-- a cell of the permutation trace has degree 1, a challenge and a permutation value 0
abbrev pub ext_entry_degree : ExtEntry → ℕ
ext_entry_degree (Permutation offset) = 1
ext_entry_degree Challenge = 0
ext_entry_degree PermutationValue = 0

-- The degree of a tree if the transition selector has degree t. A sum and a difference have the
-- greater degree of both sides, a product the sum.
abbrev pub ext_degree_of : {F EF : Type 0} → ℕ → ExtTree F EF → ℕ
ext_degree_of t (base e) = degree_of t e
ext_degree_of t (variable v) = ext_entry_degree v.entry
ext_degree_of t (constant c) = 0
ext_degree_of t (add a b) = max (ext_degree_of t a) (ext_degree_of t b)
ext_degree_of t (sub a b) = max (ext_degree_of t a) (ext_degree_of t b)
ext_degree_of t (mul a b) = ext_degree_of t a + ext_degree_of t b
ext_degree_of t (neg a) = ext_degree_of t a

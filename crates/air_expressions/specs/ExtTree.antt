-- Extension expressions as trees, without the addresses of their boxes.
use Rattle.air_expressions.specs.Tree.{Tree, tree_of}
use Rattle.air_expressions.specs.declared.ext_expression.ExtLeaf.{ExtLeaf}
use Rattle.air_expressions.specs.declared.ext_expression.ExtLeaf.TheVariants.{Base, Variable, Constant}
use Rattle.air_expressions.specs.declared.ext_expression.SymbolicExpressionExt.{SymbolicExpressionExt, Leaf, Add', Sub', Mul', Neg'}
use Rattle.air_expressions.specs.declared.variable.SymbolicVariableExt.{SymbolicVariableExt}

-- A base expression's tree, a variable or a constant; or the sum, difference, product or negation
-- of trees.
pub data ExtTree (F EF : Type 0) : Type 0 where
  base : Tree F → ExtTree F EF
  variable : SymbolicVariableExt F EF → ExtTree F EF
  constant : EF → ExtTree F EF
  add : ExtTree F EF → ExtTree F EF → ExtTree F EF
  sub : ExtTree F EF → ExtTree F EF → ExtTree F EF
  mul : ExtTree F EF → ExtTree F EF → ExtTree F EF
  neg : ExtTree F EF → ExtTree F EF

-- the tree of a leaf
abbrev pub ext_leaf_tree : {F EF : Type 0} → ExtLeaf F EF → ExtTree F EF
ext_leaf_tree (Base e) = base (tree_of e)
ext_leaf_tree (Variable v) = variable v
ext_leaf_tree (Constant c) = constant c

-- the tree of an extension expression, node by node
abbrev pub ext_tree_of : {F EF : Type 0} → SymbolicExpressionExt F EF → ExtTree F EF
ext_tree_of (Leaf l) = ext_leaf_tree l
ext_tree_of (Add' p a q b) = add (ext_tree_of a) (ext_tree_of b)
ext_tree_of (Sub' p a q b) = sub (ext_tree_of a) (ext_tree_of b)
ext_tree_of (Mul' p a q b) = mul (ext_tree_of a) (ext_tree_of b)
ext_tree_of (Neg' p a) = neg (ext_tree_of a)

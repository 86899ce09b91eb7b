-- Base expressions as trees, without the addresses of their boxes.
use Rattle.air_expressions.specs.declared.base_expression.BaseLeaf.{BaseLeaf}
use Rattle.air_expressions.specs.declared.base_expression.SymbolicExpression.{SymbolicExpression, Leaf, Add', Sub', Mul', Neg'}

-- a leaf, or the sum, difference, product or negation of trees
pub data Tree (F : Type 0) : Type 0 where
  leaf : BaseLeaf F → Tree F
  add : Tree F → Tree F → Tree F
  sub : Tree F → Tree F → Tree F
  mul : Tree F → Tree F → Tree F
  neg : Tree F → Tree F

-- the tree of an expression, node by node
abbrev pub tree_of : {F : Type 0} → SymbolicExpression F → Tree F
tree_of (Leaf l) = leaf l
tree_of (Add' p a q b) = add (tree_of a) (tree_of b)
tree_of (Sub' p a q b) = sub (tree_of a) (tree_of b)
tree_of (Mul' p a q b) = mul (tree_of a) (tree_of b)
tree_of (Neg' p a) = neg (tree_of a)

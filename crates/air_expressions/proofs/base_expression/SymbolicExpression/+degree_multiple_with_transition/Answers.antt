use Rattle.air_expressions.proofs.base_expression.SymbolicExpression.+degree_multiple_with_transition.Goals as goal

pub returns-in-Leaf : goal.returns-in-Leaf
returns-in-Leaf g t c = rw c.in-Leaf.is c.degree_of_leaf.ensures

use Rattle.air_expressions.proofs.base_expression.SymbolicExpression.degree_multiple.Goals as goal

pub returns : goal.returns
returns g c = c.degree_multiple_with_transition.ensures

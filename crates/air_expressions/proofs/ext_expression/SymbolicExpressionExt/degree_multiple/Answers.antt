use Rattle.air_expressions.proofs.ext_expression.SymbolicExpressionExt.degree_multiple.Goals as goal

pub returns : goal.returns
returns g c = c.degree_multiple_with_transition.ensures

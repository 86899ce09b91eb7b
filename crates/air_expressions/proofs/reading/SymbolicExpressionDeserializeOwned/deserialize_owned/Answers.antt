use Rattle.air_expressions.proofs.reading.SymbolicExpressionDeserializeOwned.deserialize_owned.Goals as goal

pub returns : goal.returns
returns g c = c.read_expression.ensures

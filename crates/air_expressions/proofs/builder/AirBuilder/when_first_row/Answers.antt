use Rattle.air_expressions.proofs.builder.AirBuilder.when_first_row.Goals as goal

pub returns-clause-condition : goal.returns-clause-condition
returns-clause-condition g c = c.is_first_row-condition.ensures.means

pub returns-clause-degree : goal.returns-clause-degree
returns-clause-degree g c = c.is_first_row-condition.ensures.degree

use Rattle.air.proofs.debug.builder.DebugConstraintBuilderAirBuilder.is_first_row.Goals as goal

pub returns-clause-means : goal.returns-clause-means
returns-clause-means g c w stands = rw stands c.from_bool.ensures

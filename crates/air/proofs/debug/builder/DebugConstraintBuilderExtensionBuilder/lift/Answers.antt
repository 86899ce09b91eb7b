use Rattle.air.proofs.debug.builder.DebugConstraintBuilderExtensionBuilder.lift.Goals as goal

pub returns-clause-means : goal.returns-clause-means
returns-clause-means g c w = c.embed.ensures

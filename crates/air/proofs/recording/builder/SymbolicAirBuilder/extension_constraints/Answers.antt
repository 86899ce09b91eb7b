use Rattle.air.proofs.recording.builder.SymbolicAirBuilder.extension_constraints.Goals as goal

pub returns : goal.returns
returns g c = c.as_slice.ensures.value

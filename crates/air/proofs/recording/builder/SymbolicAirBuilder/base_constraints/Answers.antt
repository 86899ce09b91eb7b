use Rattle.air.proofs.recording.builder.SymbolicAirBuilder.base_constraints.Goals as goal

pub returns : goal.returns
returns g c = c.as_slice.ensures.value

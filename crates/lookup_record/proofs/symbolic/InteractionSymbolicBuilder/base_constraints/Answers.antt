use Rattle.lookup_record.proofs.symbolic.InteractionSymbolicBuilder.base_constraints.Goals as goal

pub returns : goal.returns
returns g c = rw (← c.base_constraints.ensures) c.copy_expressions.ensures

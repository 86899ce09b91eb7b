use Rattle.air_expressions.proofs.Assertions.{on_ok}
use Rattle.lookup_record.proofs.bus.LookupBus.lookup_key.Goals as goal

pub returns-clause-layout : goal.returns-clause-layout
returns-clause-layout g c = on_ok c.push_interaction.result _ _ _ c.push_interaction.ensures
    (λ pushed. g.met.AB.InteractionBuilder.push_keeps_layout _ _ _ pushed)

pub returns-clause-within : goal.returns-clause-within
returns-clause-within g c = on_ok c.push_interaction.result _ _ _ c.push_interaction.ensures
    (λ pushed fields count old. g.met.AB.InteractionBuilder.push_within _ _ _ pushed (record { fields = fields; count = count }) old)

pub returns-clause-pushed : goal.returns-clause-pushed
returns-clause-pushed g c = rw (← c.self.view_is) c.push_interaction.ensures

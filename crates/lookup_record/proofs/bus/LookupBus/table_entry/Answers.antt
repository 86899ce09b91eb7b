use Rattle.air_expressions.proofs.Assertions.{on_ok}
use Rattle.std.proofs.Common.{refl}
use Rattle.lookup_record.specs.Pushed.{pushed_global}
use Rattle.lookup_record.proofs.Pushes.{pushes_one}
use Rattle.lookup_record.proofs.bus.LookupBus.table_entry.Goals as goal

pub returns-clause-layout : goal.returns-clause-layout
returns-clause-layout g c = on_ok c.push_interaction.result _ _ _ c.push_interaction.ensures
    (λ pushed. g.met.AB.InteractionBuilder.push_keeps_layout _ _ _ pushed)

pub returns-clause-within : goal.returns-clause-within
returns-clause-within g c = on_ok c.push_interaction.result _ _ _ c.push_interaction.ensures
    (λ pushed fields count old. g.met.AB.InteractionBuilder.push_within _ _ _ pushed (record { fields = fields; count = rw c.provided.ensures (c.in_ok-taken.ensures.within _ count) }) old)

pub returns-clause-pushed : goal.returns-clause-pushed
returns-clause-pushed g c = rw (← c.self.view_is)
    (pushes_one g.AB.InteractionBuilder.pushes g.AB.InteractionBuilder.refuses_push _ c.args.builder.now (pushed_global c.self.inside.name.now c.args.key.items c.provided.result) c.push_interaction.result c.push_interaction.new.self (record {
      negated = c.in_ok-taken.taken;
      negation = record { means = c.in_ok-taken.ensures.means; degree_is = c.in_ok-taken.ensures.degree };
      message = rw c.provided.ensures refl;
    }) c.push_interaction.ensures)

use Rattle.air_expressions.proofs.Assertions.{on_ok}
use Rattle.lookup_record.proofs.Keys.{branches_within}
use Rattle.std.proofs.Common.{map, refl}
use Rattle.lookup_record.specs.Pushed.{pushed_branch, pushed_exclusive}
use Rattle.lookup_record.proofs.Pushes.{pushes_one}
use Rattle.lookup_record.proofs.bus.LookupBus.lookup_key_exclusive.Goals as goal

pub returns-clause-layout : goal.returns-clause-layout
returns-clause-layout g c = on_ok c.push_exclusive_interaction.result _ _ _ c.push_exclusive_interaction.ensures
    (λ pushed. g.met.AB.InteractionBuilder.push_keeps_layout _ _ _ pushed)

pub returns-clause-within : goal.returns-clause-within
returns-clause-within g c = on_ok c.push_exclusive_interaction.result _ _ _ c.push_exclusive_interaction.ensures
    (λ pushed keys old. g.met.AB.InteractionBuilder.push_within _ _ _ pushed
    (branches_within g.AB.Expr.Expression.within _ _ _ c.in_ok-queries.ensures.flags_and_fields keys (c.in_ok-queries.ensures.counts _)) old)

pub returns-clause-pushed : goal.returns-clause-pushed
returns-clause-pushed g c = rw (← c.self.view_is)
    (pushes_one g.AB.InteractionBuilder.pushes g.AB.InteractionBuilder.refuses_push _ c.args.builder.now (pushed_exclusive c.self.inside.name.now c.in_ok-queries.queries.items) c.push_exclusive_interaction.result c.push_exclusive_interaction.new.self (record {
      branches = map pushed_branch c.in_ok-queries.queries.items;
      message = refl;
      flags_and_fields = c.in_ok-queries.ensures.flags_and_fields;
      queries = c.in_ok-queries.ensures.queries;
    }) c.push_exclusive_interaction.ensures)

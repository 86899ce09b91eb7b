use Rattle.std.proofs.lemmas.List.Elements.{All-map, All-push}
use Rattle.air_expressions.proofs.Assertions.{on_ok}
use Rattle.lookup_record.specs.Interaction.{Tuple}
use Rattle.lookup_record.specs.Pushed.{tuple_of}
use Rattle.lookup_record.specs.Within.{TupleWithin}
use Rattle.lookup_tests.proofs.tests.extraction.push_local.Goals as goal

pub loop-width-preserved : goal.loop-width-preserved
loop-width-preserved g c =
    let Inside : Tuple g.row.AB-Expr.Denot → Type 0 = TupleWithin g.AB.Expr.Expression.within (g.AB.AirBuilder.layout c.args.builder.now) in
    let made : Inside (tuple_of (c.in_ok-ones.field-0, c.bounded-count.result)) = record { fields = c.in_ok-ones.ensures _; count = rw c.bounded-count.ensures (c.constant.ensures.within _) } in
    rw c.in_ok-push.ensures.items (All-push (λ t. Inside (tuple_of t)) c.loop-width.tuples.items (c.in_ok-ones.field-0, c.bounded-count.result) c.loop-width.invariant made)

pub returns-clause-layout : goal.returns-clause-layout
returns-clause-layout g c = on_ok c.push_local_interaction.result _ _ _ c.push_local_interaction.ensures
    (λ pushed. g.met.AB.InteractionBuilder.push_keeps_layout _ _ _ pushed)

pub returns-clause-within : goal.returns-clause-within
returns-clause-within g c = on_ok c.push_local_interaction.result _ _ _ c.push_local_interaction.ensures
    (λ pushed old. g.met.AB.InteractionBuilder.push_within _ _ _ pushed
    (All-map (TupleWithin g.AB.Expr.Expression.within (g.AB.AirBuilder.layout c.args.builder.now)) tuple_of c.loop-width.tuples.items c.loop-width.invariant) old)

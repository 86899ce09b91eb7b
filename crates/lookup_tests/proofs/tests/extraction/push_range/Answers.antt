use Rattle.std.proofs.Common.{◌++◌, ◌∷◌, [], List, ap, subst, sym, ◌∙◌}
use Rattle.std.proofs.lemmas.List.Elements.{All-cons, All-nil}
use Rattle.air_expressions.proofs.Assertions.{on_ok}
use Rattle.lookup_record.specs.Interaction.{Tuple}
use Rattle.lookup_record.specs.Pushed.{pushed_local, tuple_of}
use Rattle.lookup_record.specs.Within.{IsInteractionWithin, TupleWithin}
use Rattle.lookup_tests.proofs.tests.extraction.push_range.Goals as goal

pub returns-clause-layout : goal.returns-clause-layout
returns-clause-layout g c = on_ok c.push_local_interaction.result _ _ _ c.push_local_interaction.ensures
    (λ pushed. g.met.AB.InteractionBuilder.push_keeps_layout _ _ _ pushed)

pub returns-clause-within : goal.returns-clause-within
returns-clause-within g c =
    let items = c.in_ok-push-2.ensures.items ∙ ap (λ (l : List _). l ++ (c.in_ok-entry.entry, c.provided-provided.result) ∷ []) (c.in_ok-push.ensures.items ∙ ap (λ (l : List _). l ++ (c.in_ok-read.read, c.from.result) ∷ []) c.new-tuples.ensures.items) in
    let Inside : Tuple g.row.AB-Expr.Denot → Type 0 = TupleWithin g.AB.Expr.Expression.within (g.AB.AirBuilder.layout c.args.builder.now) in
    let read : Inside (tuple_of (c.in_ok-read.read, c.from.result)) = record { fields = c.in_ok-read.ensures.within; count = g.met.AB.Expr.Expression.whole_within _ _ _ c.from.ensures.0 } in
    let last : Tuple g.row.AB-Expr.Denot = tuple_of (c.in_ok-entry.entry, c.provided-provided.result) in
    let provided : Inside last = record { fields = c.in_ok-entry.ensures.within; count = rw c.provided-provided.ensures (c.in_ok-neg.ensures.within _ c.in_ok-current_cell.ensures.within) } in
    let all = subst (λ (l : List _). IsInteractionWithin g.AB.Expr.Expression.within (g.AB.AirBuilder.layout c.args.builder.now) (pushed_local l)) (sym items)
    (All-cons Inside (tuple_of (c.in_ok-read.read, c.from.result)) (last ∷ []) read (All-cons Inside last [] provided (All-nil Inside))) in
    on_ok c.push_local_interaction.result _ _ _ c.push_local_interaction.ensures (λ pushed old. g.met.AB.InteractionBuilder.push_within _ _ _ pushed all old)

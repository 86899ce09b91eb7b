use Rattle.std.proofs.Common.{◌++◌, ◌∷◌, [], List, map, ap, subst, sym, ◌∙◌}
use Rattle.std.proofs.lemmas.List.Elements.{All-cons, All-nil}
use Rattle.lookup_record.specs.Interaction.{Tuple, local}
use Rattle.lookup_record.specs.Pushed.{pushed_local, tuple_of}
use Rattle.lookup_record.specs.Within.{IsInteractionWithin, TupleWithin}
use Rattle.example_machines.proofs.AirLaws.{range_does_send}
use Rattle.field.specs.laws.RingFacts.{of_nat-one}
use Rattle.example_machines.proofs.airs.range_tuples.Goals as goal

pub returns-clause-sends : goal.returns-clause-sends
returns-clause-sends g c =
    let count = c.from.result in
    let taken = c.provided-provided.ensures in
    let items = c.in_ok-push-2.ensures.items ∙ ap (λ (l : List _). l ++ (c.in_ok-tuple-2.field-0, c.provided-provided.result) ∷ []) (c.in_ok-push.ensures.items ∙ ap (λ (l : List _). l ++ (c.in_ok-tuple.field-0, count) ∷ []) c.new-tuples.ensures.items) in
    let message = ap (λ (l : List _). local (map tuple_of l)) items
    ∙ (λ i. local (record { fields = c.in_ok-tuple.field-0.items; count = count.expression; weight = c.from.ensures.1 i } ∷ record { fields = c.in_ok-tuple-2.field-0.items; count = (taken i).expression; weight = (taken i).weight } ∷ [])) in
    range_does_send g.AB.F.PrimeCharacteristicRing.ring g.AB.F.PartialEq.eq g.AB.Expr.Expression.value g.AB.AirBuilder.seen (g.AB.AirBuilder.stands_for c.args.builder.now) (λ w. w.main)
    c.in_ok-tuple.field-0.items c.in_ok-tuple-2.field-0.items count.expression c.in_ok-current_cell.field-0 c.in_ok-neg.field-0 _ message
    c.in_ok-tuple.ensures.tuple c.in_ok-tuple-2.ensures.tuple c.in_ok-current_cell.ensures.cell
    (λ s. g.met.AB.Expr.Expression.whole_value _ _ s c.from.ensures.0 ∙ of_nat-one g.AB.F.PrimeCharacteristicRing.lawful) (λ s. c.in_ok-neg.ensures.means s)

pub returns-clause-within : goal.returns-clause-within
returns-clause-within g c =
    let count = c.from.result in
    let items = c.in_ok-push-2.ensures.items ∙ ap (λ (l : List _). l ++ (c.in_ok-tuple-2.field-0, c.provided-provided.result) ∷ []) (c.in_ok-push.ensures.items ∙ ap (λ (l : List _). l ++ (c.in_ok-tuple.field-0, count) ∷ []) c.new-tuples.ensures.items) in
    let Inside : Tuple _ → Type 0 = TupleWithin g.AB.Expr.Expression.within (g.AB.AirBuilder.layout c.args.builder.now) in
    let read : Inside (tuple_of (c.in_ok-tuple.field-0, count)) = record { fields = c.in_ok-tuple.ensures.within; count = g.met.AB.Expr.Expression.whole_within _ _ _ c.from.ensures.0 } in
    let negated = c.in_ok-neg.ensures.within _ c.in_ok-current_cell.ensures.within in
    let last : Tuple _ = tuple_of (c.in_ok-tuple-2.field-0, c.provided-provided.result) in
    let provided : Inside last = record { fields = c.in_ok-tuple-2.ensures.within; count = rw c.provided-provided.ensures negated } in
    subst (λ (l : List _). IsInteractionWithin g.AB.Expr.Expression.within (g.AB.AirBuilder.layout c.args.builder.now) (pushed_local l)) (sym items)
    (All-cons Inside (tuple_of (c.in_ok-tuple.field-0, count)) (last ∷ []) read (All-cons Inside last [] provided (All-nil Inside)))

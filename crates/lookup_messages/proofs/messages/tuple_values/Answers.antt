use Rattle.std.proofs.Common.{◌∷◌, ◌++◌, [], ap, sym, ◌∙◌}
use Rattle.std.proofs.lemmas.List.{map_more}
use Rattle.lookup_model.specs.Sent.{value}
use Rattle.lookup_model.proofs.RecordLaws.{Fits-at}
use Rattle.lookup_messages.specs.TraceBuilder.{builder_layout, builder_window}
use Rattle.lookup_messages.proofs.messages.tuple_values.Goals as goal

pub value_of-requires : goal.value_of-requires
value_of-requires g c = Fits-at (builder_layout c.args.builder.now) c.args.tuple.now c.loop-element.element-index _ c.requires c.loop-element-test.true c.element-item.is

pub loop-element-preserved : goal.loop-element-preserved
loop-element-preserved g c =
    let look = value g.F.PrimeCharacteristicRing.ring (builder_window c.args.builder.now) in
    let es = c.args.tuple.now in
    let i = c.loop-element.element-index in
    c.in_ok-push.ensures.items
    ∙ (λ k. c.loop-element.invariant k ++ (c.value_of.ensures ∙ ap look c.element-item.is) k ∷ [])
    ∙ sym (map_more look es i c.element-item.result c.loop-element-test.true)

use Rattle.std.proofs.Common.{◌++◌, ◌∷◌, [], ap, sym, ◌∙◌}
use Rattle.std.proofs.lemmas.List.{append-nil, take_all}
use Rattle.lookup_model.proofs.RecordLaws.{Fits-at}
use Rattle.lookup_model.specs.Sent.{value, values}
use Rattle.lookup_messages.specs.TraceBuilder.{builder_layout, builder_window}
use Rattle.list_laws.proofs.Images.{appended_more}
use Rattle.lookup_debug.proofs.contributions.push_tuple.Goals as goal

pub value_of-requires : goal.value_of-requires
value_of-requires g c =
    Fits-at (builder_layout c.args.builder.now) c.args.tuple.now c.loop-element.element-index _ c.requires c.loop-element-test.true c.element-item.is

pub loop-element-init : goal.loop-element-init
loop-element-init g c = sym (append-nil c.args.elements.now.items)

pub loop-element-preserved : goal.loop-element-preserved
loop-element-preserved g c =
    let now = c.loop-element.elements.items in
    appended_more (value g.F.PrimeCharacteristicRing.ring (builder_window c.args.builder.now)) c.args.tuple.now c.loop-element.element-index c.element-item.result
    c.args.elements.now.items now c.push.new.self.items c.loop-element-test.true c.element-item.is c.loop-element.invariant (c.in_ok-push.ensures.items ∙ ap (λ v. now ++ v ∷ []) c.value_of.ensures)

pub returns : goal.returns
returns g c =
    c.loop-element.invariant
    ∙ ap (λ es. c.args.elements.now.items ++ values g.F.PrimeCharacteristicRing.ring (builder_window c.args.builder.now) es) (take_all c.loop-element.element-index c.args.tuple.now c.loop-element-test.false)

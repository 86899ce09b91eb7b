use Rattle.std.proofs.Common.{[], ◌∷◌, ◌++◌, arith, ap, map, string_bytes, sym, take, ◌∙◌}
use Rattle.std.proofs.lemmas.List.{map_more, map_push, take_all}
use Rattle.lookup_debug.proofs.check.texts_of.Goals as goal

pub returns : goal.returns
returns g c = c.loop-element.invariant ∙ ap (map g.F.Field.text) (take_all c.loop-element.element-index c.args.tuple.now (omega (arith, c.loop-element-test.false)))

pub loop-element-init : goal.loop-element-init
loop-element-init g c = ap (map (λ t. string_bytes t)) c.in_ok-texts.ensures.items

pub loop-element-preserved : goal.loop-element-preserved
loop-element-preserved g c =
    let text = g.F.Field.text in
    let tuple = c.args.tuple.now in
    let i = c.loop-element.element-index in
    let x = c.element-item.result in
    let texts = c.loop-element.texts.items in
    ap (map (λ t. string_bytes t)) c.in_ok-push.ensures.items
    ∙ map_push (λ t. string_bytes t) texts c.in_ok-text.field-0
    ∙ ap (λ t. t ++ string_bytes c.in_ok-text.field-0 ∷ []) c.loop-element.invariant
    ∙ ap (λ t. map text (take i tuple) ++ t ∷ []) (c.in_ok-text.ensures ∙ ap text c.element-item.is)
    ∙ sym (map_more text tuple i x c.loop-element-test.true)

use Rattle.std.proofs.Common.{codes, string_bytes, ap, ◌++◌, ◌∙◌}
use Rattle.lookup_debug.proofs.TextLaws.{one_more_part}
use Rattle.lookup_debug.proofs.fault.push_further_elements.Goals as goal

pub loop-element-preserved : goal.loop-element-preserved
loop-element-preserved c =
    one_more_part (λ t. t) (λ t. string_bytes t) (codes ", ") c.args.elements.now c.loop-element.element-index c.element-item.result c.element-item.result _ _ _ _ c.loop-element-test.true c.element-item.is
    c.loop-element.invariant c.in_ok-push_str.ensures.bytes (c.in_ok-push_str-2.ensures.bytes ∙ ap (λ t. string_bytes c.push_str.new.self ++ t) c.as_str.ensures.value)

use Rattle.std.proofs.Common.{codes, map, string_bytes, sym, ap, ◌++◌, ◌∙◌}
use Rattle.std.specs.List.{join_by}
use Rattle.lookup_debug.specs.Contributions.{location_of}
use Rattle.lookup_debug.specs.FaultText.{fault_text, location_text}
use Rattle.lookup_debug.proofs.TextLaws.{eight_parts}
use Rattle.lookup_debug.proofs.fault.LookupFault.text.Goals as goal

pub returns : goal.returns
returns g c =
    eight_parts _ _ _ _ _ _ _ _ _ _ _ _ _ _ _ _ _ c.new-line.ensures.bytes c.in_ok-push_str.ensures.bytes
    (c.in_ok-push_str-2.ensures.bytes ∙ ap (λ t. string_bytes c.push_str.new.self ++ t) c.as_str.ensures.value)
    c.in_ok-push_str-3.ensures.bytes
    (c.in_ok-push_elements.ensures ∙ ap (λ ts. string_bytes c.push_str-3.new.self ++ join_by (λ t. t) (codes ", ") (map (λ t. string_bytes t) ts)) c.as_slice.ensures.value)
    c.in_ok-push_str-4.ensures.bytes
    (c.in_ok-push_str-5.ensures.bytes ∙ ap (λ t. string_bytes c.push_str-4.new.self ++ t) (c.as_str-2.ensures.value ∙ c.in_ok-text.ensures))
    c.in_ok-push_str-6.ensures.bytes
    (c.in_ok-push_locations.ensures ∙ ap (λ ls. string_bytes c.push_str-6.new.self ++ join_by location_text (codes "; ") (map location_of ls)) c.as_slice-2.ensures.value)
    ∙ ap (fault_text g.F.Field.text) (sym c.in-Mismatch.is)

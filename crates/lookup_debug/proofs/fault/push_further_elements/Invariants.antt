use Rattle.std.proofs.Common.{◌≡◌, ◌++◌, codes, string_bytes, map, take}
use Rattle.std.specs.List.{flat_map}
use Rattle.lookup_debug.proofs.fault.push_further_elements.Given as goal

abbrev pub invariant-loop-element : goal.invariant-loop-element
invariant-loop-element l =
    string_bytes l.line ≡ string_bytes l.fn.line ++ flat_map (λ t. codes ", " ++ t) (map (λ t. string_bytes t) (take l.element-index l.elements))

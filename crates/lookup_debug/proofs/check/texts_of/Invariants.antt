use Rattle.std.proofs.Common.{◌≡◌, map, string_bytes, take}
use Rattle.lookup_debug.proofs.check.texts_of.Given as goal

abbrev pub invariant-loop-element : goal.invariant-loop-element
invariant-loop-element g l = map (λ t. string_bytes t) l.texts.items ≡ map g.F.Field.text (take l.element-index l.tuple)

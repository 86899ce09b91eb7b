use Rattle.std.proofs.Common.{◌≡◌, map, take}
use Rattle.field.specs.Ring.{of_nat}
use Rattle.field_words.proofs.elements.elements_of.Given as goal

abbrev pub invariant-loop-number : goal.invariant-loop-number
invariant-loop-number g l = l.elements.items ≡ map (of_nat g.F.PrimeCharacteristicRing.ring) (take l.number-index l.numbers)

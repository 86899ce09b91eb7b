use Rattle.std.proofs.Common.{◌≡◌, ◌||◌, true, take}
use Rattle.std.specs.List.{list_all}
use Rattle.lookup_generation_tests.proofs.plain.are_boolean.Given as goal

abbrev pub invariant-loop-flag : goal.invariant-loop-flag
invariant-loop-flag g l = list_all (λ f. g.F.PartialEq.eq f g.F.PrimeCharacteristicRing.ring.zero || g.F.PartialEq.eq f g.F.PrimeCharacteristicRing.ring.one) (take l.flag-index l.flags) ≡ true

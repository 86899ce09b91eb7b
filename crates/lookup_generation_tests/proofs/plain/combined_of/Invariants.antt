use Rattle.std.proofs.Common.{◌≡◌, map, take}
use Rattle.field.specs.Polynomial.{combined}
use Rattle.lookup_generation_tests.proofs.plain.combined_of.Given as goal

abbrev pub invariant-loop-element : goal.invariant-loop-element
invariant-loop-element g l =
    l.sum ≡ combined g.EF.PrimeCharacteristicRing.ring (map g.EF.ExtensionDomain.embed (take l.element-index l.tuple)) l.beta

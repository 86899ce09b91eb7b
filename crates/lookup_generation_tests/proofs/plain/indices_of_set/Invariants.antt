use Rattle.std.proofs.Common.{◌≡◌, take}
use Rattle.lookup_model.specs.Fault.{set_indices}
use Rattle.lookup_generation_tests.proofs.plain.indices_of_set.Given as goal

abbrev pub invariant-loop-index : goal.invariant-loop-index
invariant-loop-index g l = l.indices.items ≡ set_indices g.F.PrimeCharacteristicRing.ring g.F.PartialEq.eq 0 (take l.index l.flags)

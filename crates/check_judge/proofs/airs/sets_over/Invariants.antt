use Rattle.std.proofs.Common.{take}
use Rattle.std.specs.List.{AllZip}
use Rattle.field.specs.Ring.{of_nat}
use Rattle.lookup.specs.Lookups.{lookups_of}
use Rattle.check_judge.specs.Said.{AreLookupsOf}
use Rattle.language_meaning.specs.Lookups.{said_of}
use Rattle.check_judge.proofs.airs.sets_over.Given as goal

abbrev pub invariant-loop-index : goal.invariant-loop-index
invariant-loop-index g l = AllZip (λ air set. AreLookupsOf (of_nat g.F.PrimeCharacteristicRing.ring) l.text (said_of air) (lookups_of set)) (take l.index l.named) l.sets.items

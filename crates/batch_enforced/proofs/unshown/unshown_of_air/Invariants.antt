use Rattle.lookup_enforced.specs.Enforced.{EnforcesFlags}
use Rattle.list_laws.proofs.Items.{HoldsBelow}
use Rattle.batch_enforced.proofs.unshown.unshown_of_air.Given as goal

abbrev pub invariant-loop-index : goal.invariant-loop-index
invariant-loop-index g l = HoldsBelow (EnforcesFlags g.F.PrimeCharacteristicRing.ring g.F.PartialEq.eq l.height l.constraints) l.lookups l.index

use Rattle.list_laws.proofs.Items.{HoldsBelow}
use Rattle.batch_enforced.specs.EnforcedPlans.{HasEnforcedFlags, constrained_airs, constraints_of}
use Rattle.batch_enforced.proofs.unshown.unshown_flags.Given as goal

abbrev pub invariant-loop-air : goal.invariant-loop-air
invariant-loop-air g l =
    HoldsBelow (HasEnforcedFlags g.F.PrimeCharacteristicRing.ring g.F.PartialEq.eq) (constrained_airs (constraints_of l.constraints) l.airs l.heights) l.air

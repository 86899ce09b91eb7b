use Rattle.list_laws.proofs.Items.{HoldsBelow}
use Rattle.batch_enforced.specs.EnforcedPlans.{constraints_of}
use Rattle.batch_enforced.specs.Weights.{EnforcesAllWeights, queried_airs, queries_of}
use Rattle.batch_enforced.proofs.weights.check_all_weights.Given as goal

abbrev pub invariant-loop-air : goal.invariant-loop-air
invariant-loop-air g l =
    HoldsBelow (EnforcesAllWeights g.F.PrimeCharacteristicRing.ring g.F.PartialEq.eq) (queried_airs (queries_of l.queries) (constraints_of l.constraints) l.airs l.heights) l.air

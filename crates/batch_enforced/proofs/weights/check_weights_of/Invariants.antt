use Rattle.std.specs.List.{zip}
use Rattle.list_laws.proofs.Items.{HoldsBelow}
use Rattle.lookup_enforced.specs.Enforced.{EnforcesWeight}
use Rattle.batch_enforced.specs.Weights.{query_lists}
use Rattle.batch_enforced.proofs.weights.check_weights_of.Given as goal

abbrev pub invariant-loop-index : goal.invariant-loop-index
invariant-loop-index g l =
    HoldsBelow (λ t. EnforcesWeight g.F.PrimeCharacteristicRing.ring g.F.PartialEq.eq l.height l.constraints t.0 t.1) (zip l.lookups (query_lists l.queries)) l.index

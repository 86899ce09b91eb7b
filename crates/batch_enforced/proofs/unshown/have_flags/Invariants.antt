use Rattle.std.proofs.Common.{IsNone}
use Rattle.list_laws.proofs.Items.{HoldsBelow}
use Rattle.batch_enforced.proofs.unshown.have_flags.Given as goal

abbrev pub invariant-loop-index : goal.invariant-loop-index
invariant-loop-index g l = HoldsBelow (λ lookup. IsNone lookup.flags) l.lookups l.index

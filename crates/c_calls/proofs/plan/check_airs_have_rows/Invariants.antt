use Rattle.std.proofs.Common.{◌≡◌, ◌<◌, ℕ, Some, slice_get}
use Rattle.c_calls.specs.Plan.{HasRows}
use Rattle.c_calls.specs.declared.batch_tables.Air.{Air}
use Rattle.c_calls.proofs.plan.check_airs_have_rows.Given as goal

abbrev pub invariant-loop-index : goal.invariant-loop-index
invariant-loop-index l = (k : ℕ) (other : Air) → k < l.index → slice_get l.airs k ≡ Some other → HasRows other

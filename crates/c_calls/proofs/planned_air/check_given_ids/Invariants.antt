use Rattle.std.proofs.Common.{◌≡◌, ◌<◌, ℕ, Some, slice_get}
use Rattle.c_calls.proofs.planned_air.check_given_ids.Given as goal

abbrev pub invariant-loop-index : goal.invariant-loop-index
invariant-loop-index l = (k other : ℕ) → k < l.index → slice_get l.ids k ≡ Some other → other < l.num_ids

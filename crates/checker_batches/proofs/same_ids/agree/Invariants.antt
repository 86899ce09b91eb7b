use Rattle.std.proofs.Common.{◌<◌, ℕ, get_or}
use Rattle.lookup_model.specs.declared.types.Lookup.{Lookup}
use Rattle.checker_batches.specs.internal.SameIds.{AgreesWith}
use Rattle.checker_batches.proofs.same_ids.agree.Given as goal

abbrev pub invariant-loop-lookup : goal.invariant-loop-lookup
invariant-loop-lookup g l = (k : ℕ) (d : Lookup g.row.F.Denot) → k < l.lookup-index → AgreesWith l.ids l.other_ids l.others (get_or l.lookups k d)

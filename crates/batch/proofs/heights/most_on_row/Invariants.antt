use Rattle.std.proofs.Common.{◌≡◌, ◌*◌, ◌^◌, ◌≤◌, take}
use Rattle.lookup_model.specs.Batches.Linear.{most_of_row}
use Rattle.batch.proofs.heights.most_on_row.Given as goal

abbrev pub invariant-loop-index : goal.invariant-loop-index
invariant-loop-index g l = (l.most ≤ l.index * 2 ^ 64) × (l.most ≡ most_of_row (take l.index l.lookups))

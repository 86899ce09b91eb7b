use Rattle.std.proofs.Common.{◌≡◌, ◌*◌, take}
use Rattle.std.specs.List.{sum_by, zip}
use Rattle.lookup_model.specs.Batches.Linear.{most_of_row}
use Rattle.lookup.specs.Lookups.{lookups_of}
use Rattle.batch.proofs.heights.most_messages.Given as goal

abbrev pub invariant-loop-air : goal.invariant-loop-air
invariant-loop-air g l = l.most ≡ sum_by (λ t. t.1 * most_of_row (lookups_of t.0)) (take l.air (zip l.airs l.heights))

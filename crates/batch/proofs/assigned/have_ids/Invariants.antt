use Rattle.std.proofs.Common.{◌≡◌, take}
use Rattle.batch.proofs.IdCounts.{id_counts, lookup_counts}
use Rattle.batch.proofs.assigned.have_ids.Given as goal

abbrev pub invariant-loop-air : goal.invariant-loop-air
invariant-loop-air g l = take l.air (id_counts l.ids l.airs) ≡ take l.air (lookup_counts l.ids l.airs)

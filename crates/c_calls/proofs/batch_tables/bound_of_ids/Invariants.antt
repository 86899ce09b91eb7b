use Rattle.std.proofs.Common.{◌≡◌, map, max, take}
use Rattle.lookup_model.specs.LookupDegree.{greatest}
use Rattle.c_calls.specs.GivenIds.{next_number}
use Rattle.c_calls.proofs.batch_tables.bound_of_ids.Given as goal

abbrev pub invariant-loop-index : goal.invariant-loop-index
invariant-loop-index l = l.least ≡ max l.bound (greatest (map next_number (take l.index l.ids)))

use Rattle.std.proofs.Common.{◌≡◌, take}
use Rattle.batch.specs.Lists.{lists_of}
use Rattle.c_calls.specs.GivenIds.{id_bound}
use Rattle.c_calls.proofs.batch_tables.id_bound.Given as goal

abbrev pub invariant-loop-list : goal.invariant-loop-list
invariant-loop-list l = l.bound ≡ id_bound (lists_of (take l.list-index l.ids))

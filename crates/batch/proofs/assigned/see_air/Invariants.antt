use Rattle.std.proofs.Common.{◌++◌, ℕ, List, take}
use Rattle.std.specs.List.{zip}
use Rattle.lookup_model.specs.declared.types.Lookup.{Lookup}
use Rattle.batch.specs.internal.Seen.{AreSeen}
use Rattle.batch.proofs.assigned.see_air.Given as goal

abbrev pub invariant-loop-index : goal.invariant-loop-index
invariant-loop-index g l =
    (all : List (ℕ × Lookup _)) → AreSeen l.num_ids all l.fn.seen → AreSeen l.num_ids (all ++ take l.index (zip l.ids l.lookups)) l.seen

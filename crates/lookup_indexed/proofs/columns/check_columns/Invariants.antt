use Rattle.std.proofs.Common.{◌≡◌, ℕ, nat_eq, take}
use Rattle.std.specs.List.{list_any}
use Rattle.std.specs.HashSet as hash
use Rattle.lookup_indexed.specs.Faults.{AreDistinctColumns}
use Rattle.lookup_indexed.proofs.columns.check_columns.Given as goal

abbrev pub invariant-loop-column : goal.invariant-loop-column
invariant-loop-column l =
    AreDistinctColumns l.width (take l.column-index l.columns)
    × ((q : ℕ) → hash.contains nat_eq l.seen q ≡ list_any (nat_eq q) (take l.column-index l.columns))

use Rattle.std.proofs.Common.{◌≡◌, map, take}
use Rattle.std.specs.List.{AllZip, range_with_len}
use Rattle.c_tables.specs.Tables.{IsTableLookup}
use Rattle.c_tables.proofs.tables.lookups_at.Given as goal

abbrev pub invariant-loop-index : goal.invariant-loop-index
invariant-loop-index g l = record {
  are : AllZip (IsTableLookup l.tables) (take l.index l.tables.records.now) l.lookups.items;
  columns : map (λ lookup. lookup.column) l.lookups.items ≡ range_with_len 0 l.index;
}

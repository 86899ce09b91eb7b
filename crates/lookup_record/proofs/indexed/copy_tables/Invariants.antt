use Rattle.std.proofs.Common.{◌≡◌, map, take}
use Rattle.lookup_indexed.specs.Declaration.{declared_table}
use Rattle.lookup_record.proofs.indexed.copy_tables.Given as goal

abbrev pub invariant-loop-table : goal.invariant-loop-table
invariant-loop-table l = map declared_table l.copies.items ≡ map declared_table (take l.table-index l.tables)

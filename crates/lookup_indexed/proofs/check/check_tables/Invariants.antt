use Rattle.std.proofs.Common.{take, map, All}
use Rattle.lookup_indexed.specs.Declaration.{declared_table}
use Rattle.lookup_indexed.specs.Faults.{IsFaultlessTable}
use Rattle.lookup_indexed.proofs.check.check_tables.Given as goal

abbrev pub invariant-loop-table : goal.invariant-loop-table
invariant-loop-table l = All (IsFaultlessTable l.layout) (map declared_table (take l.table-index l.tables))

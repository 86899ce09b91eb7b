-- Declarations of indexed lookups.
use Rattle.std.specs.Prelude.{ℕ, List}
use Rattle.std.specs.String.{string_bytes}
use Rattle.lookup_indexed.specs.declared.indexed.IndexedRead.{IndexedRead}
use Rattle.lookup_indexed.specs.declared.indexed.IndexedTable.{IndexedTable}
use Rattle.lookup_indexed.specs.declared.indexed.TraceWindow.{TraceWindow}

-- a reader of a table: the column of its positions, and the columns of what it reads
pub record Read : Type 0 where
  pub table : List ℕ
  pub position : ℕ
  pub payload : List ℕ

-- a table: the trace that holds it, and its columns
pub record Table : Type 0 where
  pub name : List ℕ
  pub window : TraceWindow
  pub columns : List ℕ

-- a reader or a table
pub data Declaration : Type 0 where
  read : Read → Declaration
  table : Table → Declaration

-- the reader that a record declares
abbrev pub read_of : IndexedRead → Read
read_of r =
    record { table = string_bytes r.table; position = r.position; payload = r.payload.items }

-- the table that a record declares
abbrev pub declared_table : IndexedTable → Table
declared_table t = record { name = string_bytes t.name; window = t.window; columns = t.columns.items }

-- Faults of indexed declarations, and which of them comes first.
use Rattle.std.specs.Prelude.{◌≡◌, ◌≢◌, ◌<◌, ◌≤◌, ◌⊎◌, ℕ, nat_eq, List, [], All}
use Rattle.std.specs.List.{Contains, IsDistinct}
use Rattle.std.specs.String.{string_bytes}
use Rattle.std.specs.declared.alloc.Global.{Global}
use Rattle.std.specs.declared.string.String.{String}
use Rattle.air_expressions.specs.Faults.{SplitsAtFault}
use Rattle.air_expressions.specs.declared.layout.AirLayout.{AirLayout}
use Rattle.lookup_indexed.specs.Declaration.{Read, Table}
use Rattle.lookup_indexed.specs.declared.indexed.TraceWindow.{TraceWindow}
use Rattle.lookup_indexed.specs.declared.indexed.TraceWindow.TheVariants.{Main, Preprocessed}
use Rattle.lookup_indexed.specs.declared.error.IndexedLookupError.{IndexedLookupError}
use Rattle.lookup_indexed.specs.declared.error.IndexedLookupError.TheVariants.{ColumnOutOfRange, RepeatedColumn, EmptyPayload, EmptyTable}

-- a refusal that names a table
pub record NamesTable (table : List ℕ) (refusal : String Global → IndexedLookupError) (e : IndexedLookupError) : Type 0 where
  pub name : String Global
  pub name_is : string_bytes name ≡ table
  pub refusal_is : e ≡ refusal name

-- the columns are within a window of this width, and none is there twice
pub record AreDistinctColumns (width : ℕ) (columns : List ℕ) : Type 0 where
  pub within : All (λ c. c < width) columns
  pub distinct : IsDistinct nat_eq columns

-- a column is out of range; or it is within the window, and was named before
abbrev pub IsColumnFault : List ℕ → ℕ → IndexedLookupError → List ℕ → ℕ → Type 0
IsColumnFault table width e before column =
    ((width ≤ column) × NamesTable table (λ name. ColumnOutOfRange name column width) e)
    ⊎ ((column < width) × Contains before column × NamesTable table (λ name. RepeatedColumn name column) e)

-- the fault of the first column that has one
abbrev pub IsFirstColumnFault : List ℕ → ℕ → List ℕ → IndexedLookupError → Type 0
IsFirstColumnFault table width columns e =
    SplitsAtFault (AreDistinctColumns width) (IsColumnFault table width e) columns

-- A reader's position and its columns are within the main trace, of this width; it has a column, and
-- none twice.
pub record IsFaultlessRead (width : ℕ) (r : Read) : Type 0 where
  pub position : r.position < width
  pub filled : r.payload ≢ []
  pub columns : AreDistinctColumns width r.payload

-- the fault of a reader: of its position, then that it has no column, then that of its first column with a fault
abbrev pub IsReadFault : ℕ → IndexedLookupError → Read → Type 0
IsReadFault width e r =
    ((width ≤ r.position) × NamesTable r.table (λ name. ColumnOutOfRange name r.position width) e)
    ⊎ ((r.position < width)
    × (((r.payload ≡ []) × NamesTable r.table EmptyPayload e) ⊎ IsFirstColumnFault r.table width r.payload e))

-- the width of the trace that a window shows
abbrev pub window_width : AirLayout → TraceWindow → ℕ
window_width layout Main = layout.main_width
window_width layout Preprocessed = layout.preprocessed_width

-- a table's columns are within its own window; it has a column, and none twice
pub record IsFaultlessTable (layout : AirLayout) (t : Table) : Type 0 where
  pub filled : t.columns ≢ []
  pub columns : AreDistinctColumns (window_width layout t.window) t.columns

-- the fault of a table: that it has no column, or that of its first column with a fault
abbrev pub IsTableFault : AirLayout → IndexedLookupError → Table → Type 0
IsTableFault layout e t =
    ((t.columns ≡ []) × NamesTable t.name EmptyTable e) ⊎ IsFirstColumnFault t.name (window_width layout t.window) t.columns e

-- the fault of the first reader that has one
abbrev pub IsFirstReadFault : ℕ → List Read → IndexedLookupError → Type 0
IsFirstReadFault width reads e =
    SplitsAtFault (All (IsFaultlessRead width)) (λ _ r. IsReadFault width e r) reads

-- the fault of the first table that has one
abbrev pub IsFirstTableFault : AirLayout → List Table → IndexedLookupError → Type 0
IsFirstTableFault layout tables e =
    SplitsAtFault (All (IsFaultlessTable layout)) (λ _ t. IsTableFault layout e t) tables

-- no reader and no table has a fault
pub record AreFaultlessDeclarations (layout : AirLayout) (reads : List Read) (tables : List Table) : Type 0 where
  pub reads_faultless : All (IsFaultlessRead layout.main_width) reads
  pub tables_faultless : All (IsFaultlessTable layout) tables

-- the first fault of declarations: all readers come before all tables
abbrev pub IsFirstDeclarationFault : AirLayout → List Read → List Table → IndexedLookupError → Type 0
IsFirstDeclarationFault layout reads tables e =
    IsFirstReadFault layout.main_width reads e
    ⊎ (All (IsFaultlessRead layout.main_width) reads × IsFirstTableFault layout tables e)

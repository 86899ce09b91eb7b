-- What the columns of a chunk hold on its rows.
use Rattle.std.specs.Prelude.{◌<◌, ◌≤◌, ◌-◌, ℕ, List}
use Rattle.std.specs.List.{AllZip}
use Rattle.std.specs.declared.alloc.Global.{Global}
use Rattle.std.specs.declared.vec.Vec.{Vec}
use Rattle.field.specs.Ring.{Ring}
use Rattle.air_expressions.specs.Window.{Window}
use Rattle.lookup_columns.specs.ChunkColumns.{StoreLookup}
use Rattle.lookup_columns.specs.declared.columns.BranchColumns.{BranchColumns}
use Rattle.lookup_model.specs.declared.types.Lookup.{Lookup}

module _ {F K : Type 0} (R : Ring F) (S : Ring K) (embed : F → K) (challenges : List K) (window : ℕ → Window F) (first end : ℕ) where
  -- The columns hold what a lookup sends on the rows from `first` up to `end`, row `first` at index 0.
  abbrev pub StoreOnRows : Lookup F → List (BranchColumns F K) → Type 0
  StoreOnRows lookup columns =
      (row : ℕ) → first ≤ row → row < end → StoreLookup R S embed challenges (window row) (row - first) lookup columns

  -- the same for each lookup
  abbrev pub StoreAllOnRows : List (Lookup F) → List (Vec (BranchColumns F K) Global) → Type 0
  StoreAllOnRows = AllZip (λ lookup columns. StoreOnRows lookup columns.items)

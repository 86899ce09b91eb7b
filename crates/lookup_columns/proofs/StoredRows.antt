-- What columns hold on the rows of a chunk.
use Rattle.std.proofs.Common.{◌≡◌, ℕ, ◌+◌, ◌-◌, ◌<◌, ◌≤◌, Some, List, [], length, map, get_or, refl, sym, ap, subst, ◌∙◌, arith}
use Rattle.std.proofs.lemmas.List.{nil_from_length}
use Rattle.std.proofs.lemmas.Slice.Zip.{AllZip-long}
use Rattle.std.specs.List.{AllZip, range_with_len, zip}
use Rattle.std.specs.declared.alloc.Global.{Global}
use Rattle.std.specs.declared.vec.Vec.{Vec}
use Rattle.list_laws.proofs.Items.{range_at}
use Rattle.list_laws.proofs.Zips.{AllZip-both_at}
use Rattle.air_expressions.specs.Window.{Window}
use Rattle.field.specs.Ring.{Ring}
use Rattle.lookup_columns.proofs.ChunkColumnLaws.{zip_weaker}
use Rattle.lookup_columns.specs.ChunkColumns.{AreColumns, AreLookupColumns, StoreLookup}
use Rattle.lookup_columns.specs.declared.columns.BranchColumns.{BranchColumns}
use Rattle.lookup_columns.specs.internal.StoredRows.{StoreAllOnRows, StoreOnRows}
use Rattle.lookup_model.proofs.Lookups.SentRows.{column_is}
use Rattle.lookup_model.specs.Message.{Message}
use Rattle.lookup_model.specs.Records.{AreRecords}
use Rattle.lookup_model.specs.Sent.{branch_at, branches_at}
use Rattle.lookup_model.specs.declared.types.Lookup.{Lookup}

-- a lookup without tuples has no columns
pub no_columns : {F K : Type 0} (P : BranchColumns F K → Message F → Type 0) (R : Ring F) (w : Window F) (id : ℕ) (lookup : Lookup F) (columns : List (BranchColumns F K)) → lookup.elements.items ≡ [] → AllZip P columns (branches_at R w id lookup) → columns ≡ []
no_columns P R w id lookup columns no_tuples held =
    let none : length (branches_at R w id lookup) ≡ 0 = ap (λ es. length (map (λ b. branch_at R w id b.0.items b.1) (zip es lookup.multiplicities.items))) no_tuples in
    let long = AllZip-long P columns (branches_at R w id lookup) held in
    nil_from_length columns (omega (arith, long, none))

module _ {F K : Type 0} (R : Ring F) (S : Ring K) (embed : F → K) (challenges : List K) (window : ℕ → Window F) (first end : ℕ) where
  -- the columns of a lookup that were made of these rows
  pub columns_store : (rows : List ℕ) (lookup : Lookup F) (columns read : List (BranchColumns F K)) → rows ≡ range_with_len first (end - first) → read ≡ columns
      → AreColumns R S embed challenges window rows lookup columns → StoreOnRows R S embed challenges window first end lookup read
  columns_store rows lookup columns read rows_are read_is made = λ row low high.
      let here : first + (row - first) ≡ row = omega (arith, low) in
      subst (StoreLookup R S embed challenges (window row) (row - first) lookup) (sym read_is)
      (made (row - first) row (range_at first (end - first) (row - first) rows rows_are (omega (arith, low, high)) ∙ ap Some here))

  module _ (lookups : List (Lookup F)) where
    -- one lookup
    abbrev one_stores : Lookup F → Vec (BranchColumns F K) Global → Type 0
    one_stores lookup columns = StoreOnRows R S embed challenges window first end lookup columns.items

    -- those of all lookups
    pub all_columns_store : (rows : List ℕ) (columns read : List (Vec (BranchColumns F K) Global)) → rows ≡ range_with_len first (end - first) → read ≡ columns
        → AreLookupColumns R S embed challenges window rows lookups columns → StoreAllOnRows R S embed challenges window first end lookups read
    all_columns_store rows columns read rows_are read_is made =
        let are = λ (lookup : Lookup F) (v : Vec (BranchColumns F K) Global). AreColumns R S embed challenges window rows lookup v.items in
        subst (StoreAllOnRows R S embed challenges window first end lookups) (sym read_is)
        (zip_weaker one_stores are (λ lookup v held. columns_store rows lookup v.items v.items rows_are refl held) lookups columns made)

    module _ (columns : List (Vec (BranchColumns F K) Global)) (all : StoreAllOnRows R S embed challenges window first end lookups columns) where
      -- they are as many as the lookups
      pub as_many : length columns ≡ length lookups
      as_many = AllZip-long one_stores lookups columns all

      -- those of one lookup, also up to an earlier row
      pub one_stores_until : AreRecords lookups → (i : ℕ) (lookup : Lookup F) → i < length lookups → lookup ≡ get_or lookups i lookup
          → (v : Vec (BranchColumns F K) Global) → v ≡ get_or columns lookup.column v → (read : List (BranchColumns F K)) → read ≡ v.items
          → (until : ℕ) → until ≤ end → StoreOnRows R S embed challenges window first until lookup read
      one_stores_until records i lookup lt is v v_is read read_is until within = λ row low high.
          let at = column_is lookups i lookup records lt is in
          let here : one_stores lookup v = AllZip-both_at one_stores lookups columns i lookup v all (omega (arith, as_many, lt)) is (v_is ∙ ap (λ n. get_or columns n v) at) in
          subst (StoreLookup R S embed challenges (window row) (row - first) lookup) (sym read_is) (here row low (omega (arith, high, within)))

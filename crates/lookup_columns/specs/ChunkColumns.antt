-- The columns of lookups on the rows of a chunk.
use Rattle.std.specs.Prelude.{◌≡◌, ◌≢◌, ℕ, List, None, Some, slice_get}
use Rattle.std.specs.List.{AllZip}
use Rattle.std.specs.declared.alloc.Global.{Global}
use Rattle.std.specs.declared.vec.Vec.{Vec}
use Rattle.field.specs.Ring.{Ring}
use Rattle.air_expressions.specs.Window.{Window}
use Rattle.air_expressions.specs.declared.base_expression.SymbolicExpression.{SymbolicExpression}
use Rattle.lookup_model.specs.Denominators.{column_denominator_over}
use Rattle.lookup_model.specs.Message.{Key, Message}
use Rattle.lookup_model.specs.Sent.{branches_at, values}
use Rattle.lookup_model.specs.declared.types.Lookup.{Lookup}
use Rattle.lookup_columns.specs.declared.columns.BranchColumns.{BranchColumns}

module _ {F K : Type 0} where
  -- At this index, a column holds the multiplicity and the denominator of this message.
  abbrev pub IsStored : (Key F → K) → ℕ → BranchColumns F K → Message F → Type 0
  IsStored denominator index c m =
      (slice_get c.multiplicities.items index ≡ Some m.multiplicity) × (slice_get c.denominators.items index ≡ Some (denominator m.key))

  -- the denominator of a key whose id is a column, as `key_denominator` of an extension has it
  abbrev pub key_denominator_over : Ring K → (F → K) → List K → Key F → K
  key_denominator_over S embed challenges key = column_denominator_over S embed challenges key.id key.tuple

  -- At this index, a column holds this flag.
  abbrev pub HasFlag : ℕ → BranchColumns F K → F → Type 0
  HasFlag index c f = slice_get c.flags.items index ≡ Some f

  -- The index that is kept for the row at `index`, where the multiplicity and the denominator are
  -- those of this message.
  pub record IsStoredSelected (denominator : Key F → K) (index : ℕ) (c : BranchColumns F K) (m : Message F) : Type 0 where
    pub at : ℕ
    pub there : slice_get c.indices.items index ≡ Some at
    pub held : IsStored denominator at c m

  -- A column holds the message, if its flag at this index is not zero.
  abbrev pub IsStoredIfSet : Ring F → (Key F → K) → ℕ → BranchColumns F K → Message F → Type 0
  IsStoredIfSet R denominator index c m = (f : F) → HasFlag index c f → f ≢ R.zero → IsStoredSelected denominator index c m

  -- At this index, the columns hold these flags, and the messages whose flags are not zero.
  pub record StoreSelected (R : Ring F) (denominator : Key F → K) (index : ℕ) (columns : List (BranchColumns F K)) (flags : List F) (messages : List (Message F)) : Type 0 where
    pub flags_are : AllZip (HasFlag index) columns flags
    pub held : AllZip (IsStoredIfSet R denominator index) columns messages

  -- At this index, the columns hold what a lookup sends at a window.
  pub record StoreLookup (R : Ring F) (S : Ring K) (embed : F → K) (challenges : List K) (w : Window F) (index : ℕ) (lookup : Lookup F) (columns : List (BranchColumns F K)) : Type 0 where
    pub additive : lookup.flags ≡ None → AllZip (IsStored (key_denominator_over S embed challenges) index) columns (branches_at R w lookup.column lookup)
    pub exclusive : (flags : Vec (SymbolicExpression F) Global) → lookup.flags ≡ Some flags → StoreSelected R (key_denominator_over S embed challenges) index columns (values R w flags.items) (branches_at R w lookup.column lookup)

  -- At the index of each of these rows, the columns hold what a lookup sends on that row.
  abbrev pub AreColumns : Ring F → Ring K → (F → K) → List K → (ℕ → Window F) → List ℕ → Lookup F → List (BranchColumns F K) → Type 0
  AreColumns R S embed challenges window rows lookup columns =
      (index r : ℕ) → slice_get rows index ≡ Some r → StoreLookup R S embed challenges (window r) index lookup columns

  -- the same for each lookup
  abbrev pub AreLookupColumns : Ring F → Ring K → (F → K) → List K → (ℕ → Window F) → List ℕ → List (Lookup F) → List (Vec (BranchColumns F K) Global) → Type 0
  AreLookupColumns R S embed challenges window rows =
      AllZip (λ lookup columns. AreColumns R S embed challenges window rows lookup columns.items)

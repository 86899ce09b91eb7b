-- Which lookups are well formed, and which fit the traces of an AIR.
use Rattle.std.specs.Prelude.{◌≡◌, ℕ, ◌<◌, List, Some, IfSome, length, slice_get, All}
use Rattle.std.specs.Option.{ForSome}
use Rattle.air_expressions.specs.declared.layout.AirLayout.{AirLayout}
use Rattle.air_expressions.specs.declared.base_expression.SymbolicExpression.{SymbolicExpression}
use Rattle.air_expressions.specs.Layout.{Fits}
use Rattle.air_expressions.specs.Tree.{tree_of}
use Rattle.lookup_model.specs.declared.types.Lookup.{Lookup}

module _ {F : Type 0} where
  -- one multiplicity for each tuple and, if there are flags, one flag for each
  pub record HasEqualLengths (lookup : Lookup F) : Type 0 where
    pub multiplicities : length lookup.multiplicities.items ≡ length lookup.elements.items
    pub flags : ForSome lookup.flags (λ flags. length flags.items ≡ length lookup.elements.items)

  -- a lookup has equal lengths and this column
  abbrev pub IsRecordAt : ℕ → Lookup F → Type 0
  IsRecordAt column lookup = (lookup.column ≡ column) × HasEqualLengths lookup

  -- the first n lookups have equal lengths, and the columns 0, 1, 2, …
  abbrev pub AreRecordsBelow : ℕ → List (Lookup F) → Type 0
  AreRecordsBelow n lookups = (i : ℕ) (lookup : Lookup F) → i < n → slice_get lookups i ≡ Some lookup → IsRecordAt i lookup

  -- all lookups have the columns 0, 1, 2, … and equal lengths
  abbrev pub AreRecords : List (Lookup F) → Type 0
  AreRecords lookups = AreRecordsBelow (length lookups) lookups

  -- lookup i is the first whose lengths are not equal or whose column is not i
  pub record IsFirstMalformed (lookups : List (Lookup F)) (i : ℕ) : Type 0 where
    pub lookup : Lookup F
    pub is_there : slice_get lookups i ≡ Some lookup
    pub malformed : ¬ IsRecordAt i lookup
    pub before : AreRecordsBelow i lookups

  -- all variables of these expressions are within the layout
  unfoldable pub AllFit : AirLayout → List (SymbolicExpression F) → Type 0
  AllFit layout es = All (λ e. Fits layout (tree_of e)) es

  -- all variables of a lookup, in its tuples, multiplicities and flags, are within the layout
  unfoldable pub IsWithin : AirLayout → Lookup F → Type 0
  IsWithin layout lookup =
      All (λ tuple. AllFit layout tuple.items) lookup.elements.items × AllFit layout lookup.multiplicities.items × IfSome lookup.flags (λ flags. AllFit layout flags.items)

  -- lookups that fit an AIR: well formed, and within its layout
  pub record LookupsFit (layout : AirLayout) (lookups : List (Lookup F)) : Type 0 where
    pub records : AreRecords lookups
    pub within : All (IsWithin layout) lookups

-- Why lookups do not fit the traces of their AIR.
use Rattle.std.specs.Prelude.{◌≡◌, ◌≢◌, ◌≤◌, ◌⊎◌, ℕ, All, IsSomeAnd, List}
use Rattle.std.specs.declared.alloc.Global.{Global}
use Rattle.std.specs.declared.vec.Vec.{Vec}
use Rattle.air.specs.Traces.{AirTraces, HaveOneHeight, layout_of}
use Rattle.air_expressions.specs.Faults.{HasFirstFault}
use Rattle.air_expressions.specs.Layout.{EntryFits, Fits}
use Rattle.air_expressions.specs.Tree.{Tree, add, leaf, mul, neg, sub, tree_of}
use Rattle.air_expressions.specs.declared.base_expression.BaseLeaf.{BaseLeaf}
use Rattle.air_expressions.specs.declared.base_expression.BaseLeaf.TheVariants.{Variable as OfVariable}
use Rattle.air_expressions.specs.declared.base_expression.SymbolicExpression.{SymbolicExpression}
use Rattle.air_expressions.specs.declared.layout.AirLayout.{AirLayout}
use Rattle.air_expressions.specs.declared.variable.BaseEntry.{BaseEntry}
use Rattle.air_expressions.specs.declared.variable.BaseEntry.TheVariants.{Main, Preprocessed, Public}
use Rattle.air_expressions.specs.declared.variable.SymbolicVariable.{SymbolicVariable}
use Rattle.lookup_debug.specs.declared.fit.Cell.{Cell}
use Rattle.lookup_debug.specs.declared.fit.FitFault.{FitFault}
use Rattle.lookup_debug.specs.declared.fit.FitFault.TheVariants.{Heights, Malformed, Missing}
use Rattle.lookup_model.specs.Records.{AllFit, AreRecords, IsFirstMalformed, IsWithin, LookupsFit}
use Rattle.lookup_model.specs.declared.types.Lookup.{Lookup}
use Rattle.matrix.specs.Matrix.{height}

-- how many cells of a row, or public values, a layout has where a variable is read
abbrev pub width_at : AirLayout → BaseEntry → ℕ
width_at layout (Preprocessed offset) = layout.preprocessed_width
width_at layout (Main offset) = layout.main_width
width_at layout Public = layout.num_public_values

-- a variable of the current row or the next one, or a public value
abbrev pub HasOffset : BaseEntry → Type 0
HasOffset (Preprocessed offset) = offset ≤ 1
HasOffset (Main offset) = offset ≤ 1
HasOffset Public = Unit {0}

-- a cell that a layout does not have, as that of a leaf
pub record IsLeafOutside {F : Type 0} (layout : AirLayout) (cell : Cell) (l : BaseLeaf F) : Type 0 where
  pub variable : SymbolicVariable F
  pub leaf_is : l ≡ OfVariable variable
  pub entry_is : cell.entry ≡ variable.entry
  pub index_is : cell.index ≡ variable.index
  pub outside : ¬ EntryFits layout variable.entry variable.index

-- that of the first variable of a tree, from left to right, that is not within a layout
abbrev pub IsFirstOutside : {F : Type 0} → AirLayout → Cell → Tree F → Type 0
IsFirstOutside layout cell (leaf l) = IsLeafOutside layout cell l
IsFirstOutside layout cell (add a b) = IsFirstOutside layout cell a ⊎ (Fits layout a × IsFirstOutside layout cell b)
IsFirstOutside layout cell (sub a b) = IsFirstOutside layout cell a ⊎ (Fits layout a × IsFirstOutside layout cell b)
IsFirstOutside layout cell (mul a b) = IsFirstOutside layout cell a ⊎ (Fits layout a × IsFirstOutside layout cell b)
IsFirstOutside layout cell (neg a) = IsFirstOutside layout cell a

module _ {F : Type 0} (layout : AirLayout) (cell : Cell) where
  -- a cell that a layout does not have, as the first that some expressions read
  abbrev pub IsFirstOutsideOf : List (SymbolicExpression F) → Type 0
  IsFirstOutsideOf es = HasFirstFault (λ e. Fits layout (tree_of e)) (λ _ e. IsFirstOutside layout cell (tree_of e)) es

  -- as the first that some tuples read
  abbrev pub IsFirstOutsideTuples : List (Vec (SymbolicExpression F) Global) → Type 0
  IsFirstOutsideTuples tuples = HasFirstFault (λ tuple. AllFit layout tuple.items) (λ _ tuple. IsFirstOutsideOf tuple.items) tuples

  -- as the first that a lookup reads: in its tuples, else in its multiplicities, else in its flags
  abbrev pub IsFirstOutsideLookup : Lookup F → Type 0
  IsFirstOutsideLookup lookup =
      IsFirstOutsideTuples lookup.elements.items
      ⊎ (All (λ tuple. AllFit layout tuple.items) lookup.elements.items
      × (IsFirstOutsideOf lookup.multiplicities.items
      ⊎ (AllFit layout lookup.multiplicities.items × IsSomeAnd lookup.flags (λ flags. IsFirstOutsideOf flags.items))))

-- a cell that a layout does not have, of the first lookup that is not within it, which has this index
abbrev pub IsFirstMissing : {F : Type 0} → AirLayout → ℕ → Cell → List (Lookup F) → Type 0
IsFirstMissing layout index cell lookups = HasFirstFault (IsWithin layout) (λ i lookup. (i ≡ index) × IsFirstOutsideLookup layout cell lookup) lookups

module _ {F : Type 0} (traces : AirTraces F) (lookups : List (Lookup F)) where
  -- the lookups fit the traces, which have one height
  pub record FitTraces : Type 0 where
    pub fit : LookupsFit (layout_of traces) lookups
    pub heights : HaveOneHeight traces

  -- The first reason why they do not fit: a lookup that is not well formed, else one that reads what is not
  -- there, else the heights.
  abbrev pub IsFitFault : FitFault → Type 0
  IsFitFault (Malformed index) = IsFirstMalformed lookups index
  IsFitFault (Missing index cell width) = AreRecords lookups × IsFirstMissing (layout_of traces) index cell lookups × (width ≡ width_at (layout_of traces) cell.entry)
  IsFitFault (Heights main preprocessed) =
      LookupsFit (layout_of traces) lookups × (main ≡ height traces.main)
      × IsSomeAnd traces.preprocessed (λ m. (preprocessed ≡ height m) × (height m ≢ height traces.main))

-- Which lookups tables can encode, and what tables that are written encode.
use Rattle.std.specs.Prelude.{◌≡◌, ◌⊎◌, ◌≤◌, ◌<◌, ◌^◌, ℕ, All, List, Option, None, Some, length, map, slice_get}
use Rattle.std.specs.List.{flat_map}
use Rattle.std.specs.declared.alloc.Global.{Global}
use Rattle.std.specs.declared.vec.Vec.{Vec}
use Rattle.air_expressions.specs.Depth.{depth_of}
use Rattle.air_expressions.specs.Tree.{Tree, leaf, add, sub, mul, neg, tree_of}
use Rattle.air_expressions.specs.declared.base_expression.BaseLeaf.{BaseLeaf}
use Rattle.air_expressions.specs.declared.base_expression.BaseLeaf.TheVariants.{Variable, IsFirstRow, IsLastRow, IsTransition, Constant}
use Rattle.air_expressions.specs.declared.base_expression.SymbolicExpression.{SymbolicExpression}
use Rattle.air_expressions.specs.declared.variable.BaseEntry.{BaseEntry}
use Rattle.air_expressions.specs.declared.variable.BaseEntry.TheVariants.{Preprocessed, Main, Public}
use Rattle.lookup_model.specs.declared.types.Lookup.{Lookup}
use Rattle.field.specs.Residue.{Residue}
use Rattle.c_tables.specs.Nodes.{nodes_of}
use Rattle.c_tables.specs.Tables.{AreTableLookups}
use Rattle.c_tables.specs.declared.nodes.Node.{Node}
use Rattle.c_tables.specs.declared.tables.Record.{Record}
use Rattle.c_tables.specs.declared.tables.Span.{Span}
use Rattle.c_tables.specs.declared.tables.TableFault.{TableFault}
use Rattle.c_tables.specs.declared.tables.TableFault.TheVariants.{TooDeep, TooManyNodesWritten, RowTooLarge}
use Rattle.c_tables.specs.declared.tables.Tables.{Tables}
use Rattle.c_tables.specs.declared.writer.Written.{Written}

-- the row of a cell has a number of 32 bits
abbrev pub IsWritableEntry : BaseEntry → Type 0
IsWritableEntry (Preprocessed offset) = offset < 2 ^ 32
IsWritableEntry (Main offset) = offset < 2 ^ 32
IsWritableEntry Public = Unit {0}

abbrev pub IsWritableLeaf : {p : ℕ} → BaseLeaf (Residue p) → Type 0
IsWritableLeaf (Variable v) = IsWritableEntry v.entry
IsWritableLeaf IsFirstRow = Unit {0}
IsWritableLeaf IsLastRow = Unit {0}
IsWritableLeaf IsTransition = Unit {0}
IsWritableLeaf (Constant c) = Unit {0}

abbrev pub HasWritableCells : {p : ℕ} → Tree (Residue p) → Type 0
HasWritableCells (leaf l) = IsWritableLeaf l
HasWritableCells (add a b) = HasWritableCells a × HasWritableCells b
HasWritableCells (sub a b) = HasWritableCells a × HasWritableCells b
HasWritableCells (mul a b) = HasWritableCells a × HasWritableCells b
HasWritableCells (neg a) = HasWritableCells a

-- a tree that nodes encode, if it is at most so deep
abbrev pub IsWritableWithin : {p : ℕ} → ℕ → Tree (Residue p) → Type 0
IsWritableWithin depth t = HasWritableCells t × (depth_of t ≤ depth)

-- a list of expressions that nodes encode: none too deep, and not too many nodes
pub record AreWritableExpressions {p : ℕ} (expressions : List (SymbolicExpression (Residue p))) : Type 0 where
  pub each : All (λ e. IsWritableWithin 1024 (tree_of e)) expressions
  pub short : length (flat_map nodes_of (map tree_of expressions)) ≤ 1048576

-- the same of flags, if there are any
abbrev pub AreWritableFlags : {p : ℕ} → Option (Vec (SymbolicExpression (Residue p)) Global) → Type 0
AreWritableFlags None = Unit {0}
AreWritableFlags (Some flags) = AreWritableExpressions flags.items

-- a lookup that tables encode
pub record IsWritableLookup {p : ℕ} (lookup : Lookup (Residue p)) : Type 0 where
  pub elements : All (λ tuple. AreWritableExpressions tuple.items) lookup.elements.items
  pub multiplicities : AreWritableExpressions lookup.multiplicities.items
  pub flags : AreWritableFlags lookup.flags

-- why nodes can't encode a tree that is to be at most so deep
abbrev pub IsWritingTreeFault : {p : ℕ} → ℕ → Tree (Residue p) → TableFault → Type 0
IsWritingTreeFault depth t RowTooLarge = ¬ HasWritableCells t
IsWritingTreeFault depth t TooDeep = depth < depth_of t
IsWritingTreeFault depth t _ = ⊥

-- why nodes can't encode a list of expressions
abbrev pub IsWritingListFault : {p : ℕ} → List (SymbolicExpression (Residue p)) → TableFault → Type 0
IsWritingListFault {p} expressions e =
    ((e ≡ TooManyNodesWritten) × (1048576 < length (flat_map nodes_of (map tree_of expressions))))
    ⊎ ((i : ℕ) × (x : SymbolicExpression (Residue p)) × (slice_get expressions i ≡ Some x) × IsWritingTreeFault 1024 (tree_of x) e)

-- the same of tuples, and of flags, if there are any
abbrev pub IsWritingTuplesFault : {p : ℕ} → List (Vec (SymbolicExpression (Residue p)) Global) → TableFault → Type 0
IsWritingTuplesFault {p} tuples e =
    (i : ℕ) × (tuple : Vec (SymbolicExpression (Residue p)) Global) × (slice_get tuples i ≡ Some tuple) × IsWritingListFault tuple.items e

abbrev pub IsWritingFlagsFault : {p : ℕ} → Option (Vec (SymbolicExpression (Residue p)) Global) → TableFault → Type 0
IsWritingFlagsFault None e = ⊥
IsWritingFlagsFault (Some flags) e = IsWritingListFault flags.items e

-- why tables can't encode a lookup
abbrev pub IsWritingLookupFault : {p : ℕ} → Lookup (Residue p) → TableFault → Type 0
IsWritingLookupFault lookup e =
    IsWritingTuplesFault lookup.elements.items e ⊎ (IsWritingListFault lookup.multiplicities.items e ⊎ IsWritingFlagsFault lookup.flags e)

-- tables can't encode lookup i, and why, and they can encode all those before it
pub record IsFirstUnwritable {p : ℕ} (lookups : List (Lookup (Residue p))) (i : ℕ) (e : TableFault) : Type 0 where
  pub lookup : Lookup (Residue p)
  pub is_there : slice_get lookups i ≡ Some lookup
  pub before : (k : ℕ) (other : Lookup (Residue p)) → k < i → slice_get lookups k ≡ Some other → IsWritableLookup other
  pub fault : IsWritingLookupFault lookup e

-- tables with these nodes, tuples, names and records encode these lookups
abbrev pub WrittenListsEncode : {p : ℕ} → List Node → List Span → List ℕ → List Record → List (Lookup (Residue p)) → Type 0
WrittenListsEncode nodes tuples names records lookups =
    (t : Tables) → t.nodes.now ≡ nodes → t.tuples.now ≡ tuples → t.names.now ≡ names → t.records.now ≡ records → AreTableLookups t lookups

-- what is written says these lookups
abbrev pub WrittenEncodes : {p : ℕ} → Written → List (Lookup (Residue p)) → Type 0
WrittenEncodes w lookups = WrittenListsEncode w.nodes.items w.tuples.items w.names.items w.records.items lookups

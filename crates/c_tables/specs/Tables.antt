-- Which lookups tables encode.
use Rattle.std.specs.Prelude.{◌≡◌, ◌≢◌, ◌⊎◌, ◌≤◌, ◌<◌, ◌+◌, ◌-◌, ℕ, List, Option, Some, None, length, map, slice_get, slice_range, take}
use Rattle.std.specs.List.{AllZip, range_with_len}
use Rattle.std.specs.Option.{option_map}
use Rattle.std.specs.Str.{IsUtf8}
use Rattle.std.specs.declared.alloc.Global.{Global}
use Rattle.std.specs.declared.vec.Vec.{Vec}
use Rattle.air_expressions.specs.Tree.{tree_of}
use Rattle.air_expressions.specs.declared.base_expression.SymbolicExpression.{SymbolicExpression}
use Rattle.lookup_model.specs.Outline.{bus_of, outline_of}
use Rattle.lookup_model.specs.declared.types.Lookup.{Lookup}
use Rattle.field.specs.Residue.{Residue}
use Rattle.c_tables.specs.Nodes.{IsFirstBadNode, NodesAreTrees}
use Rattle.c_tables.specs.declared.nodes.Node.{Node}
use Rattle.c_tables.specs.declared.tables.Record.{Record}
use Rattle.c_tables.specs.declared.tables.Span.{Span}
use Rattle.c_tables.specs.declared.tables.TableFault.{TableFault}
use Rattle.c_tables.specs.declared.tables.TableFault.TheVariants.{BadKind, Memory, TooManyNodesRead, NameNotUtf8, Node as BadNode, Range}
use Rattle.c_tables.specs.declared.tables.Tables.{Tables}

-- nothing is so
abbrev pub NothingInTable : {A : Type 0} → (A → Type 0) → Type 0
NothingInTable {A} P = (x : A) → ¬ P x

-- something is so
abbrev pub SomethingInTable : {A : Type 0} → (A → Type 0) → Type 0
SomethingInTable {A} P = (x : A) × P x

-- a range of a list
pub record IsTableRange {A : Type 0} (items : List A) (span : Span) : Type 0 where
  pub ordered : span.start ≤ span.end
  pub ends : span.end ≤ length items

-- the items of a range
abbrev pub table_items : {A : Type 0} → List A → Span → List A
table_items items span = slice_range items span.start span.end

-- these expressions stand in a range of at most 1048576 nodes
pub record AreTableExpressions {p : ℕ} (nodes : List Node) (span : Span) (expressions : List (SymbolicExpression (Residue p))) : Type 0 where
  pub inside : IsTableRange nodes span
  pub short : span.end - span.start ≤ 1048576
  pub trees : NodesAreTrees (map tree_of expressions) (table_items nodes span)

-- these tuples stand in these ranges of nodes
abbrev pub AreTableTuples : {p : ℕ} → List Node → List Span → List (Vec (SymbolicExpression (Residue p)) Global) → Type 0
AreTableTuples nodes spans tuples = AllZip (λ span tuple. AreTableExpressions nodes span tuple.items) spans tuples

-- the bus of a record: none, or the bytes of a range of the names
abbrev pub IsTableBus : List ℕ → Record → Option (List ℕ) → Type 0
IsTableBus names r None = r.kind ≡ 0
IsTableBus names r (Some name) = (r.kind ≡ 1) × IsTableRange names r.bus × (name ≡ table_items names r.bus)

-- the flags of a record: none, or expressions
abbrev pub AreTableFlags : {p : ℕ} → List Node → Record → Option (List (SymbolicExpression (Residue p))) → Type 0
AreTableFlags nodes r None = r.exclusive ≡ 0
AreTableFlags nodes r (Some flags) = (r.exclusive ≡ 1) × AreTableExpressions nodes r.flags flags

-- a record is a lookup, but for its column
pub record IsTableLookup {p : ℕ} (tables : Tables) (r : Record) (lookup : Lookup (Residue p)) : Type 0 where
  pub bus : IsTableBus tables.names.now r (bus_of lookup.kind)
  pub inside : IsTableRange tables.tuples.now r.tuples
  pub elements : AreTableTuples tables.nodes.now (table_items tables.tuples.now r.tuples) lookup.elements.items
  pub multiplicities : AreTableExpressions tables.nodes.now r.multiplicities lookup.multiplicities.items
  pub flags : AreTableFlags tables.nodes.now r (option_map (λ flags. flags.items) lookup.flags)
  pub weight : lookup.count_weight ≡ r.weight

-- Each record is the lookup at its place, whose column is its index.
pub record AreTableLookups {p : ℕ} (tables : Tables) (lookups : List (Lookup (Residue p))) : Type 0 where
  pub are : AllZip (IsTableLookup tables) tables.records.now lookups
  pub columns : map (λ lookup. lookup.column) lookups ≡ range_with_len 0 (length lookups)

-- The tables encode these lookups, and no others: all that they encode have these expressions, node by node.
pub record TablesEncode {p : ℕ} (tables : Tables) (lookups : List (Lookup (Residue p))) : Type 0 where
  pub are : AreTableLookups tables lookups
  pub only : (others : List (Lookup (Residue p))) → AreTableLookups tables others → map outline_of others ≡ map outline_of lookups

-- These expressions stand in a range of nodes, and no others: all that stand there are these, node by node.
pub record RangeEncodes {p : ℕ} (nodes : List Node) (span : Span) (expressions : List (SymbolicExpression (Residue p))) : Type 0 where
  pub are : AreTableExpressions nodes span expressions
  pub only : (others : List (SymbolicExpression (Residue p))) → AreTableExpressions nodes span others → map tree_of others ≡ map tree_of expressions

-- why a record has no bus
abbrev pub IsTableBusFault : List ℕ → Record → TableFault → Type 0
IsTableBusFault names r BadKind = (r.kind ≢ 0) × (r.kind ≢ 1)
IsTableBusFault names r Range = (r.kind ≡ 1) × (¬ IsTableRange names r.bus)
IsTableBusFault names r NameNotUtf8 = (r.kind ≡ 1) × IsTableRange names r.bus × (¬ IsUtf8 (table_items names r.bus))
IsTableBusFault names r _ = ⊥

module _ (p : ℕ) where
  -- Why no expressions stand in a range of nodes: it is none, or a range that is too long, or has a bad
  -- node.
  abbrev pub IsTableSpanFault : List Node → Span → TableFault → Type 0
  IsTableSpanFault nodes span Range = ¬ IsTableRange nodes span
  IsTableSpanFault nodes span TooManyNodesRead = IsTableRange nodes span × (1048576 < span.end - span.start)
  IsTableSpanFault nodes span (BadNode n) =
      IsTableRange nodes span × (span.end - span.start ≤ 1048576) × ((i : ℕ) × (n ≡ span.start + i) × IsFirstBadNode p (table_items nodes span) i)
  IsTableSpanFault nodes span _ = ⊥

  -- The refusal of a range of nodes in which no expressions stand, and why; or memory runs out.
  abbrev pub IsTableRangeRefusal : List Node → Span → TableFault → Type 0
  IsTableRangeRefusal nodes span e =
      (e ≡ Memory) ⊎ (NothingInTable (AreTableExpressions {p = p} nodes span) × IsTableSpanFault nodes span e)

  -- Tuple i does not stand in its range, and why, and all those before it do.
  pub record IsFirstBadTableTuple (nodes : List Node) (spans : List Span) (i : ℕ) (e : TableFault) : Type 0 where
    pub span : Span
    pub is_there : slice_get spans i ≡ Some span
    pub tuples : List (Vec (SymbolicExpression (Residue p)) Global)
    pub before : AreTableTuples nodes (take i spans) tuples
    pub bad : NothingInTable (AreTableExpressions {p = p} nodes span)
    pub fault : IsTableSpanFault nodes span e

  -- Why a record has no tuples: its range is none of the tuples' ranges, or one of these has no tuple.
  abbrev pub IsTableTuplesFault : List Node → List Span → Span → TableFault → Type 0
  IsTableTuplesFault nodes spans span e =
      ((e ≡ Range) × (¬ IsTableRange spans span))
      ⊎ (IsTableRange spans span × ((i : ℕ) × IsFirstBadTableTuple nodes (table_items spans span) i e))

  -- why a record has no flags
  abbrev pub IsTableFlagsFault : List Node → Record → TableFault → Type 0
  IsTableFlagsFault nodes r e =
      ((e ≡ BadKind) × (r.exclusive ≢ 0) × (r.exclusive ≢ 1)) ⊎ ((r.exclusive ≡ 1) × IsTableSpanFault nodes r.flags e)

  -- a record has a bus, tuples, multiplicities
  abbrev pub HasTableBus : Tables → Record → Type 0
  HasTableBus tables r = SomethingInTable (λ kind. IsTableBus tables.names.now r (bus_of kind))

  abbrev pub HasTableTuples : Tables → Record → Type 0
  HasTableTuples tables r =
      IsTableRange tables.tuples.now r.tuples × SomethingInTable (AreTableTuples {p = p} tables.nodes.now (table_items tables.tuples.now r.tuples))

  abbrev pub HasTableMultiplicities : Tables → Record → Type 0
  HasTableMultiplicities tables r = SomethingInTable (AreTableExpressions {p = p} tables.nodes.now r.multiplicities)

  -- Why a record is no lookup: the fault of the first that it lacks, of a bus, tuples, multiplicities and
  -- flags.
  abbrev pub IsTableRecordFault : Tables → Record → TableFault → Type 0
  IsTableRecordFault tables r e =
      IsTableBusFault tables.names.now r e
      ⊎ ((HasTableBus tables r × IsTableTuplesFault tables.nodes.now tables.tuples.now r.tuples e)
      ⊎ ((HasTableBus tables r × HasTableTuples tables r × IsTableSpanFault tables.nodes.now r.multiplicities e)
      ⊎ (HasTableBus tables r × HasTableTuples tables r × HasTableMultiplicities tables r × IsTableFlagsFault tables.nodes.now r e)))

  -- Record i is no lookup, and why, and all those before it are.
  pub record IsFirstBadTableRecord (tables : Tables) (i : ℕ) (e : TableFault) : Type 0 where
    pub r : Record
    pub is_there : slice_get tables.records.now i ≡ Some r
    pub lookups : List (Lookup (Residue p))
    pub before : AllZip (IsTableLookup tables) (take i tables.records.now) lookups
    pub bad : NothingInTable (IsTableLookup {p = p} tables r)
    pub fault : IsTableRecordFault tables r e

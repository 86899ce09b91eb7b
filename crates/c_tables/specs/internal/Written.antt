-- Tables while they are written: what a record encodes over lists that will go on.
use Rattle.std.specs.Prelude.{◌≡◌, ◌++◌, ℕ, List, Option, None, Some}
use Rattle.std.specs.declared.alloc.Global.{Global}
use Rattle.std.specs.declared.vec.Vec.{Vec}
use Rattle.air_expressions.specs.declared.base_expression.SymbolicExpression.{SymbolicExpression}
use Rattle.lookup_model.specs.declared.types.Lookup.{Lookup}
use Rattle.field.specs.Residue.{Residue}
use Rattle.c_tables.specs.Tables.{IsTableRange, IsTableLookup, AreTableExpressions, table_items}
use Rattle.c_tables.specs.declared.nodes.Node.{Node}
use Rattle.c_tables.specs.declared.tables.Record.{Record}
use Rattle.c_tables.specs.declared.tables.Span.{Span}
use Rattle.c_tables.specs.declared.tables.Tables.{Tables}

-- a list goes on from another one
abbrev pub IsLonger : {A : Type 0} → List A → List A → Type 0
IsLonger {A} items all = (more : List A) × (all ≡ items ++ more)

-- it holds of each list that goes on from this one
abbrev pub HoldsFrom : {A : Type 0} → List A → (List A → Type 0) → Type 0
HoldsFrom {A} items P = (all : List A) → IsLonger items all → P all

-- what a record says of its bus: a mark of 0 and none, or a mark of 1 and the name at a range
abbrev pub EncodesBus : List ℕ → ℕ → Span → Option (List ℕ) → Type 0
EncodesBus names mark span None = mark ≡ 0
EncodesBus names mark span (Some name) = (mark ≡ 1) × IsTableRange names span × (name ≡ table_items names span)

-- what a record says of its flags, likewise
abbrev pub EncodesFlags : {p : ℕ} → List Node → ℕ → Span → Option (Vec (SymbolicExpression (Residue p)) Global) → Type 0
EncodesFlags nodes mark span None = mark ≡ 0
EncodesFlags nodes mark span (Some flags) = (mark ≡ 1) × AreTableExpressions nodes span flags.items

-- a record is this lookup, but for its column, over all tables that go on from these
abbrev pub EncodesRecord : {p : ℕ} → List Node → List Span → List ℕ → Record → Lookup (Residue p) → Type 0
EncodesRecord nodes tuples names r lookup =
    (t : Tables) → IsLonger nodes t.nodes.now → IsLonger tuples t.tuples.now → IsLonger names t.names.now → IsTableLookup t r lookup

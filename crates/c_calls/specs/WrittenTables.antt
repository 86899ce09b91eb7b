-- Tables that calls write.
use Rattle.std.specs.Prelude.{◌≡◌, ◌⊎◌, ◌++◌, ◌<◌, ◌≤◌, ℕ, List, drop, length}
use Rattle.field.specs.Residue.{Residue}
use Rattle.lookup_model.specs.declared.types.Lookup.{Lookup}
use Rattle.c_tables.specs.Written.{IsFirstUnwritable, WrittenEncodes}
use Rattle.c_tables.specs.declared.nodes.Node.{Node}
use Rattle.c_tables.specs.declared.tables.Record.{Record}
use Rattle.c_tables.specs.declared.tables.Span.{Span}
use Rattle.c_tables.specs.declared.tables.TableFault.{TableFault}
use Rattle.c_tables.specs.declared.writer.Written.{Written}
use Rattle.c_calls.specs.declared.fault.Fault.{Fault}
use Rattle.c_calls.specs.declared.fault.Fault.TheVariants.{Length, Memory, Table}
use Rattle.c_calls.specs.declared.codes.Part.TheVariants.{Names, Nodes, Records, Tuples}
use Rattle.c_calls.specs.declared.written_tables.TableSizes.{TableSizes}

-- the arrays that a caller has for tables
pub record TableArrays : Type 0 where
  pub nodes : List Node
  pub tuples : List Span
  pub names : List ℕ
  pub records : List Record

-- the arrays of these parts
abbrev pub table_arrays : List Node → List Span → List ℕ → List Record → TableArrays
table_arrays nodes tuples names records = record { nodes = nodes; tuples = tuples; names = names; records = records }

-- their lengths
abbrev pub room_of_arrays : TableArrays → TableSizes
room_of_arrays a = record { nodes = length a.nodes; tuples = length a.tuples; names = length a.names; records = length a.records }

-- the sizes of tables that are made
abbrev pub sizes_of_written : Written → TableSizes
sizes_of_written w = room_of_arrays (table_arrays w.nodes.items w.tuples.items w.names.items w.records.items)

-- the refusal of the first lookup that no tables encode; or memory runs out
abbrev pub IsUnwritableRefusal : {p : ℕ} → List (Lookup (Residue p)) → Fault → Type 0
IsUnwritableRefusal lookups fault =
    (fault ≡ Memory) ⊎ ((i : ℕ) × (reason : TableFault) × (fault ≡ Table 0 i reason) × IsFirstUnwritable lookups i reason)

-- arrays of the second sizes have room for tables of the first ones
pub record HasTableRoom (sizes room : TableSizes) : Type 0 where
  pub nodes : sizes.nodes ≤ room.nodes
  pub tuples : sizes.tuples ≤ room.tuples
  pub names : sizes.names ≤ room.names
  pub records : sizes.records ≤ room.records

-- the refusal of the first array that is too short: of nodes, tuples, names and records, in this order
abbrev pub IsTableRoomRefusal : TableSizes → TableSizes → Fault → Type 0
IsTableRoomRefusal sizes room fault =
    ((room.nodes < sizes.nodes) × (fault ≡ Length Nodes sizes.nodes room.nodes))
    ⊎ ((sizes.nodes ≤ room.nodes) × (((room.tuples < sizes.tuples) × (fault ≡ Length Tuples sizes.tuples room.tuples))
    ⊎ ((sizes.tuples ≤ room.tuples) × (((room.names < sizes.names) × (fault ≡ Length Names sizes.names room.names))
    ⊎ ((sizes.names ≤ room.names) × (room.records < sizes.records) × (fault ≡ Length Records sizes.records room.records))))))

-- the refusal of lookups that are to be written: that no tables encode one, or that there is no room for them
abbrev pub IsTableWritingRefusal : {p : ℕ} → List (Lookup (Residue p)) → TableSizes → Fault → Type 0
IsTableWritingRefusal lookups room fault =
    IsUnwritableRefusal lookups fault
    ⊎ ((made : Written) × WrittenEncodes made lookups × IsTableRoomRefusal (sizes_of_written made) room fault)

-- items are written over those at the start of an array
abbrev pub written_over : {A : Type 0} → List A → List A → List A
written_over items before = items ++ drop (length items) before

-- Tables are written over the start of each array, with their sizes.
pub record WritesTables (made : Written) (before after : TableArrays) (sizes : TableSizes) : Type 0 where
  pub room : HasTableRoom (sizes_of_written made) (room_of_arrays before)
  pub nodes : after.nodes ≡ written_over made.nodes.items before.nodes
  pub tuples : after.tuples ≡ written_over made.tuples.items before.tuples
  pub names : after.names ≡ written_over made.names.items before.names
  pub records : after.records ≡ written_over made.records.items before.records
  pub sizes_are : sizes ≡ sizes_of_written made

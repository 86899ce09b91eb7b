use Rattle.std.proofs.Common.{◌≡◌, ◌<◌, ℕ, Some, take}
use Rattle.field.specs.Residue.{Residue}
use Rattle.std.specs.List.{AllZip, slice_get}
use Rattle.lookup_model.specs.declared.types.Lookup.{Lookup}
use Rattle.c_tables.specs.Tables.{IsTableLookup}
use Rattle.c_tables.specs.Written.{IsWritableLookup}
use Rattle.c_tables.specs.declared.tables.Tables.{Tables}
use Rattle.c_tables.specs.internal.Written.{IsLonger}
use Rattle.c_tables.proofs.writer.write_lookups.Given as goal

abbrev pub invariant-loop-index : goal.invariant-loop-index
invariant-loop-index g l = record {
  encoded : (t : Tables) → IsLonger l.nodes.items t.nodes.now → IsLonger l.tuples.items t.tuples.now → IsLonger l.names.items t.names.now → AllZip (IsTableLookup t) l.records.items (take l.index l.lookups);
  encodable : (k : ℕ) (other : Lookup (Residue g.row.P)) → k < l.index → slice_get l.lookups k ≡ Some other → IsWritableLookup other;
}

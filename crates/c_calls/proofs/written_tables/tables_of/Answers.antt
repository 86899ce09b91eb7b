use Rattle.std.proofs.Common.{◌≡◌, List, arith, length, map, subst, sym}
use Rattle.std.specs.List.{range_with_len}
use Rattle.field.specs.Residue.{Residue}
use Rattle.lookup.specs.Lookups.{lookups_of}
use Rattle.lookup_model.specs.declared.types.Lookup.{Lookup}
use Rattle.c_tables.specs.Written.{WrittenEncodes}
use Rattle.c_calls.proofs.TableWriting.{columns_are}
use Rattle.c_calls.proofs.written_tables.tables_of.Goals as goal

pub write_lookups-requires : goal.write_lookups-requires
write_lookups-requires g c =
    (omega arith, subst (λ (ls : List (Lookup (Residue g.row.P))). map (λ l. l.column) ls ≡ range_with_len 0 (length ls)) (sym c.as_slice.ensures.lookups) (columns_are (lookups_of c.args.set.now) c.as_slice.ensures.records))

pub returns-in-Ok : goal.returns-in-Ok
returns-in-Ok g c = subst (λ (ls : List (Lookup (Residue g.row.P))). WrittenEncodes c.in-Ok.tables ls) c.as_slice.ensures.lookups c.in-Ok.ensures

use Rattle.std.proofs.Common.{refl, inl, inr, arith}
use Rattle.c_tables.proofs.TableLaws.{all_lookups, columns_next, first_bad_record}
use Rattle.list_laws.proofs.Zips.{AllZip-more}
use Rattle.c_tables.specs.Tables.{IsTableLookup}
use Rattle.c_tables.proofs.tables.lookups_at.Goals as goal

pub loop-index-preserved : goal.loop-index-preserved
loop-index-preserved g c = record {
  are = AllZip-more (IsTableLookup c.args.tables.now) c.args.tables.now.records.now c.loop-index.lookups.items _ c.loop-index.index _ _ c.in-Ok.lookup c.loop-index-test.true refl c.in_default.ensures.items c.in-Ok.ensures.0 c.loop-index.invariant.are;
  columns = columns_next g.row.P c.loop-index.lookups.items _ c.in-Ok.lookup c.loop-index.index c.in_default.ensures.items c.in-Ok.ensures.1 c.loop-index.invariant.columns;
}

pub returns-in-Err : goal.returns-in-Err
returns-in-Err g c = elim c.in-Err.ensures [
  | inl memory ↦ inl memory
  | inr (none, fault) ↦ inr (first_bad_record g.row.P c.args.tables.now c.loop-index.index _ c.loop-index.lookups.items c.in-Err.fault c.loop-index-test.true c.loop-index.invariant.are none fault)
]

pub returns : goal.returns
returns g c = all_lookups g.row.P c.args.tables.now c.loop-index.index c.loop-index.lookups.items (omega (arith, c.loop-index-test.false)) c.loop-index.invariant.are c.loop-index.invariant.columns

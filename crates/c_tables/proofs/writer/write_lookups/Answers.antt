use Rattle.std.proofs.Common.{◌+◌, List, arith, inl, inr, subst, sym, take}
use Rattle.std.specs.List.{AllZip}
use Rattle.list_laws.proofs.Items.{holds_next, item_there}
use Rattle.c_tables.specs.Tables.{IsTableLookup}
use Rattle.c_tables.specs.Written.{IsWritableLookup}
use Rattle.c_tables.specs.declared.tables.Record.{Record}
use Rattle.c_tables.proofs.WriterLaws.{all_encode, longer_then, records_next, unencodable_at}
use Rattle.c_tables.proofs.writer.write_lookups.Goals as goal

pub returns-in-Err : goal.returns-in-Err
returns-in-Err g c = elim c.in-Err.ensures [
  | inl memory ↦ inl memory
  | inr fault ↦ inr (unencodable_at c.args.lookups.now c.loop-index.index c.index-lookups-index.result c.in-Err.fault c.loop-index-test.true c.index-lookups-index.is fault c.loop-index.invariant.encodable)
]

pub loop-index-preserved : goal.loop-index-preserved
loop-index-preserved g c = record {
  encoded = λ t on_nodes on_tuples on_names.
      let made = c.in-Ok.ensures in
      subst (λ (rs : List Record). AllZip (IsTableLookup t) rs (take (c.loop-index.index + 1) c.args.lookups.now)) (sym c.in_default.ensures.items)
      (records_next c.args.lookups.now c.loop-index.index c.index-lookups-index.result c.loop-index.records.items c.in-Ok.made t c.loop-index-test.true c.index-lookups-index.is
      (c.loop-index.invariant.encoded t
      (longer_then c.loop-index.nodes.items c.write_lookup.new.nodes.items t.nodes.now made.0 on_nodes)
      (longer_then c.loop-index.tuples.items c.write_lookup.new.spans.items t.tuples.now made.1 on_tuples)
      (longer_then c.loop-index.names.items c.write_lookup.new.names.items t.names.now made.2 on_names))
      (made.3 t on_nodes on_tuples on_names));
  encodable = holds_next IsWritableLookup c.args.lookups.now c.loop-index.index c.index-lookups-index.result (item_there c.args.lookups.now c.loop-index.index c.index-lookups-index.result c.loop-index-test.true c.index-lookups-index.is) c.in-Ok.ensures.4 c.loop-index.invariant.encodable;
}

pub returns : goal.returns
returns g c =
    all_encode c.args.lookups.now c.loop-index.index c.loop-index.nodes.items c.loop-index.tuples.items c.loop-index.names.items c.loop-index.records.items (omega (arith, c.loop-index-test.false)) c.requires c.loop-index.invariant.encoded

use Rattle.std.proofs.Common.{arith, length, rules, sym, ◌∙◌}
use Rattle.std.proofs.lemmas.Bool.{true≢false}
use Rattle.std.proofs.lemmas.Option.{slice_get_read}
use Rattle.lookup_model.proofs.RecordLaws.{AreRecordsBelow-more}
use Rattle.lookup_model.proofs.fitting.first_malformed.Goals as goal

pub returns-then-not-is_record_at : goal.returns-then-not-is_record_at
returns-then-not-is_record_at g c = record {
  lookup = c.index-lookups-column.result;
  is_there = slice_get_read c.args.lookups.now (length c.args.lookups.now) c.loop-column.column _ (search rules) (omega arith) c.index-lookups-column.is;
  malformed = λ is. true≢false (sym (c.is_record_at.ensures.1 is) ∙ c.if-not-is_record_at.true);
  before = c.loop-column.invariant;
}

pub loop-column-preserved : goal.loop-column-preserved
loop-column-preserved g c =
    AreRecordsBelow-more _ _ c.index-lookups-column.result c.loop-column.invariant (slice_get_read c.args.lookups.now (length c.args.lookups.now) c.loop-column.column _ (search rules) (omega arith) c.index-lookups-column.is) (c.is_record_at.ensures.0 c.if-not-is_record_at.false)

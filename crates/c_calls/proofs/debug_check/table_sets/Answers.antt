use Rattle.std.proofs.Common.{refl, inr}
use Rattle.list_laws.proofs.Zips.{AllZip-more, AllZip-paired}
use Rattle.lookup.specs.Lookups.{lookups_of}
use Rattle.c_tables.specs.Tables.{TablesEncode}
use Rattle.air_expressions.proofs.FirstFaults.{first_fault}
use Rattle.c_calls.proofs.AnswerLaws.{refused_is}
use Rattle.c_calls.proofs.debug_check.table_sets.Goals as goal

pub loop-index-preserved : goal.loop-index-preserved
loop-index-preserved g c =
    AllZip-more (λ tables set. TablesEncode tables (lookups_of set)) c.args.airs.now c.loop-index.sets.items _ c.loop-index.index _ _ c.in_ok-set_of.field-0 c.loop-index-test.true refl c.in_ok-push.ensures.items c.in_ok-set_of.ensures c.loop-index.invariant

pub returns-in_err-set_of : goal.returns-in_err-set_of
returns-in_err-set_of g c = rw (refused_is c.from_residual-in_err-set_of.result c.from_residual-in_err-set_of.ensures.1) (inr (first_fault _ _ c.args.airs.now c.loop-index.index _ c.loop-index-test.true (AllZip-paired (λ tables set. TablesEncode tables (lookups_of set)) _ _ c.loop-index.invariant) c.in_err-set_of.ensures))

use Rattle.std.proofs.Common.{refl, inr}
use Rattle.list_laws.proofs.Zips.{AllZip-paired}
use Rattle.list_laws.proofs.Zips.{AllZip-more}
use Rattle.c_tables.specs.TraceNumbers.{AreTracesOfNumbers}
use Rattle.air_expressions.proofs.FirstFaults.{first_fault}
use Rattle.c_calls.proofs.AnswerLaws.{refused_is}
use Rattle.c_calls.proofs.batch_tables.all_traces.Goals as goal

pub loop-index-preserved : goal.loop-index-preserved
loop-index-preserved g c =
    AllZip-more (AreTracesOfNumbers g.K.MontyParameters.positive) c.args.traces.now c.loop-index.all.items _ c.loop-index.index _ _ c.in_ok-traces_of.field-0 c.loop-index-test.true refl c.in_ok-push.ensures.items c.in_ok-traces_of.ensures c.loop-index.invariant

pub returns-in_err-traces_of : goal.returns-in_err-traces_of
returns-in_err-traces_of g c = rw (refused_is c.from_residual-in_err-traces_of.result c.from_residual-in_err-traces_of.ensures.1) (inr (first_fault _ _ c.args.traces.now c.loop-index.index _ c.loop-index-test.true (AllZip-paired (AreTracesOfNumbers g.K.MontyParameters.positive) _ _ c.loop-index.invariant) c.in_err-traces_of.ensures))

use Rattle.std.proofs.Common.{inl, inr}
use Rattle.std.proofs.lemmas.List.Elements.{All-more}
use Rattle.c_calls.specs.Witnesses.{IsAirWitness, witness_auxiliary, witness_terminal}
use Rattle.air_expressions.proofs.FirstFaults.{first_fault}
use Rattle.c_calls.proofs.WrittenLaws.{map_next}
use Rattle.c_calls.proofs.AnswerLaws.{refused_is}
use Rattle.c_calls.proofs.witness.read_witness.Goals as goal

pub returns-in_err-read_auxiliary : goal.returns-in_err-read_auxiliary
returns-in_err-read_auxiliary g c = rw (refused_is c.from_residual-in_err-read_auxiliary.result c.from_residual-in_err-read_auxiliary.ensures.1) (inr (first_fault _ _ c.args.witness.now c.loop-index.index _ c.loop-index-test.true c.loop-index.invariant.each (inl c.in_err-read_auxiliary.ensures)))

pub returns-in_err-read_terminal : goal.returns-in_err-read_terminal
returns-in_err-read_terminal g c = rw (refused_is c.from_residual-in_err-read_terminal.result c.from_residual-in_err-read_terminal.ensures.1) (inr (first_fault _ _ c.args.witness.now c.loop-index.index _ c.loop-index-test.true c.loop-index.invariant.each (inr c.in_err-read_terminal.ensures)))

pub loop-index-preserved : goal.loop-index-preserved
loop-index-preserved g c = record {
  aux = map_next (witness_auxiliary g.K.MontyParameters.positive) c.args.witness.now c.loop-index.index _ c.loop-index.aux.items _ c.in_ok-read_auxiliary.field-0 c.loop-index-test.true c.in_ok-push.ensures.items c.in_ok-read_auxiliary.ensures.0 c.loop-index.invariant.aux;
  terminals = map_next (λ air. witness_terminal g.K.MontyParameters.positive air.terminal) c.args.witness.now c.loop-index.index _ c.loop-index.terminals.items _ c.in_ok-read_terminal.field-0 c.loop-index-test.true c.in_ok-push-2.ensures.items c.in_ok-read_terminal.ensures.0 c.loop-index.invariant.terminals;
  each = All-more (IsAirWitness g.row.P) c.args.witness.now c.loop-index.index _ c.loop-index-test.true c.loop-index.invariant.each
      (record { whole = c.in_ok-read_auxiliary.ensures.1; cells = c.in_ok-read_auxiliary.ensures.2; terminal = c.in_ok-read_terminal.ensures.1 });
}

use Rattle.std.proofs.Common.{ap, map, refl, ◌∙◌}
use Rattle.std.specs.List.{flat_map}
use Rattle.c_calls.specs.Outputs.{output_cells, terminal_numbers}
use Rattle.c_calls.proofs.AnswerLaws.{refused_is}
use Rattle.c_calls.proofs.prove.answer_prove.Goals as goal

pub returns-in_err-witness-clause-answers : goal.returns-in_err-witness-clause-answers
returns-in_err-witness-clause-answers g c = rw (refused_is c.from_residual.result c.from_residual.ensures.1) c.in_err-witness.ensures

pub returns-in_err-witness-clause-kept : goal.returns-in_err-witness-clause-kept
returns-in_err-witness-clause-kept g c = rw (refused_is c.from_residual.result c.from_residual.ensures.1) (refl, refl)

pub returns-clause-answers : goal.returns-clause-answers
returns-clause-answers g c = record {
  witness = c.in_ok-witness.witness;
  proves = c.in_ok-witness.ensures.0;
  cells_are = c.write_traces.ensures ∙ ap (flat_map output_cells) c.deref.ensures.value;
  terminals_are = c.write_terminals.ensures ∙ ap (map terminal_numbers) c.deref-2.ensures.value;
}

use Rattle.std.proofs.Common.{Ok, Err, refl}
use Rattle.std.specs.Process.{exit_status}
use Rattle.check_run.proofs.TellLaws.{answers_words, written_parts}
use Rattle.check_run.proofs.program.run.Goals as goal

pub returns-in-Ok : goal.returns-in-Ok
returns-in-Ok g c = (
  Ok c.in-Ok.answer,
  c.in-Ok.ensures,
  (λ names words asks. answers_words g.L.FieldList.offers c.args.said names words _ _ _ (Ok c.in-Ok.answer) c.in-Ok.ensures asks),
  written_parts g.W.Write.contents g.E.Write.contents c.in-Ok.answer c.deref.result.now c.as_bytes-unwritten.result.now c.args.output.now c.write_answer.new.output c.args.errors.now c.write_answer.new.errors (exit_status c.write_answer.result) c.deref.ensures.value c.as_bytes-unwritten.ensures.value c.write_answer.ensures,
)

pub returns-in-Err : goal.returns-in-Err
returns-in-Err g c = (
  Err c.in-Err.refusal,
  c.in-Err.ensures,
  (λ names words asks. answers_words g.L.FieldList.offers c.args.said names words _ _ _ (Err c.in-Err.refusal) c.in-Err.ensures asks),
  (c.refuse.ensures.0, refl, c.refuse.ensures.1),
)

use Rattle.std.proofs.Common.{inl}
use Rattle.check_run.proofs.TellLaws.{answers_in, no_answer}
use Rattle.check_run.proofs.program.answer_in.Goals as goal

pub returns-in-Some : goal.returns-in-Some
returns-in-Some g c = answers_in _ _ _ _ _ _ c.in-Some.answer c.in-Some.ensures

pub returns-in-None : goal.returns-in-None
returns-in-None g c = no_answer _ _ c.no_field.result c.no_field.ensures (λ e. inl c.in-None.ensures)

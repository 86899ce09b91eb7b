use Rattle.c_calls.proofs.AnswerLaws.{refused_is}
use Rattle.c_calls.proofs.enforced.answer_enforced.Goals as goal

pub returns-in_err-made-clause-answers : goal.returns-in_err-made-clause-answers
returns-in_err-made-clause-answers g c = rw (refused_is c.from_residual.result c.from_residual.ensures.1) c.in_err-made.ensures

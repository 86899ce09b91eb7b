use Rattle.std.proofs.Common.{refl}
use Rattle.c_calls.proofs.AnswerLaws.{refused_is}
use Rattle.c_calls.proofs.degrees.answer_degrees.Goals as goal

pub returns-in_err-made-clause-answers : goal.returns-in_err-made-clause-answers
returns-in_err-made-clause-answers g c = rw (refused_is c.from_residual.result c.from_residual.ensures.1) c.in_err-made.ensures

pub returns-in_err-made-clause-kept : goal.returns-in_err-made-clause-kept
returns-in_err-made-clause-kept g c = rw (refused_is c.from_residual.result c.from_residual.ensures.1) refl

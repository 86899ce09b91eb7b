use Rattle.std.proofs.Common.{refl}
use Rattle.c_calls.proofs.AnswerLaws.{refused_is}
use Rattle.c_calls.proofs.shift.answer_shift.Goals as goal

pub returns-in_err-element-clause-answers : goal.returns-in_err-element-clause-answers
returns-in_err-element-clause-answers g c = rw (refused_is c.from_residual.result c.from_residual.ensures.1) c.in_err-element.ensures

pub returns-in_err-element-clause-kept : goal.returns-in_err-element-clause-kept
returns-in_err-element-clause-kept g c = rw (refused_is c.from_residual.result c.from_residual.ensures.1) refl

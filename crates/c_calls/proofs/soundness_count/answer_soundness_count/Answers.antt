use Rattle.std.proofs.Common.{refl}
use Rattle.c_calls.proofs.AnswerLaws.{refused_is}
use Rattle.c_calls.proofs.soundness_count.answer_soundness_count.Goals as goal

pub returns-in_err-count-clause-answers : goal.returns-in_err-count-clause-answers
returns-in_err-count-clause-answers g c = rw (refused_is c.from_residual.result c.from_residual.ensures.1) c.in_err-count.ensures

pub returns-in_err-count-clause-kept : goal.returns-in_err-count-clause-kept
returns-in_err-count-clause-kept g c = rw (refused_is c.from_residual.result c.from_residual.ensures.1) refl

use Rattle.std.proofs.Common.{inl, refl}
use Rattle.c_calls.proofs.AnswerLaws.{refused_is}
use Rattle.c_calls.proofs.GenerateLaws.{numbers_of_generated}
use Rattle.c_calls.proofs.generate.answer_generate.Goals as goal

pub returns-in_err-made-clause-answers : goal.returns-in_err-made-clause-answers
returns-in_err-made-clause-answers g c = rw (refused_is c.from_residual.result c.from_residual.ensures.1) (inl c.in_err-made.ensures)

pub returns-in_err-made-clause-kept : goal.returns-in_err-made-clause-kept
returns-in_err-made-clause-kept g c = rw (refused_is c.from_residual.result c.from_residual.ensures.1) (refl, refl)

pub returns-clause-answers : goal.returns-clause-answers
returns-clause-answers g c = numbers_of_generated _ _ c.in_ok-made.made c.in_ok-made.ensures _ c.write_generated.result _ _ c.write_generated.ensures.answers

pub returns-clause-kept : goal.returns-clause-kept
returns-clause-kept g c = c.write_generated.ensures.kept

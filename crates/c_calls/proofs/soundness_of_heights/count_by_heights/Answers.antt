use Rattle.std.proofs.Common.{inl, inr, refl}
use Rattle.c_calls.proofs.AnswerLaws.{refused_is}
use Rattle.c_calls.proofs.soundness_of_heights.count_by_heights.Goals as goal

pub returns-in_err-plan : goal.returns-in_err-plan
returns-in_err-plan g c = rw (refused_is c.from_residual.result c.from_residual.ensures.1) (inl c.in_err-plan.ensures)

pub returns : goal.returns
returns g c = (_, c.in_ok-plan.ensures, record { counts = c.in_ok-soundness_of_heights.ensures.answer; sound = c.in_ok-soundness_of_heights.ensures.sound })

pub returns-in_err-soundness_of_heights : goal.returns-in_err-soundness_of_heights
returns-in_err-soundness_of_heights g c =
    rw (refused_is c.from_residual-in_err-soundness_of_heights.result c.from_residual-in_err-soundness_of_heights.ensures.1)
    (inr (c.in_err-soundness_of_heights.field-0.0, _, refl, c.in_ok-plan.ensures, record { counts = c.in_err-soundness_of_heights.ensures.answer; sound = c.in_err-soundness_of_heights.ensures.sound }))

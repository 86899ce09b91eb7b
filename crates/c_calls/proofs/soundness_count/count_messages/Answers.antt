use Rattle.std.proofs.Common.{inl, inr, refl}
use Rattle.c_calls.proofs.AnswerLaws.{refused_is}
use Rattle.c_calls.proofs.BatchLaws.{batch_read}
use Rattle.c_calls.proofs.soundness_count.count_messages.Goals as goal

pub returns-in_err-plan : goal.returns-in_err-plan
returns-in_err-plan g c = rw (refused_is c.from_residual.result c.from_residual.ensures.1) (inl (inr (inl c.in_err-plan.ensures)))

pub returns : goal.returns
returns g c =
    let batch = batch_read g.K.MontyParameters.positive c.args.traces.now c.in_ok-plan.ensures c.in_ok-all.ensures c.deref.ensures.value c.deref-2.ensures.value c.in_ok-given.ensures in
    (_, _, batch, record { counts = c.in_ok-soundness_count.ensures.answer; sound = c.in_ok-soundness_count.ensures.sound; linear = c.in_ok-soundness_count.ensures.linear })

pub returns-in_err-soundness_count : goal.returns-in_err-soundness_count
returns-in_err-soundness_count g c =
    let batch = batch_read g.K.MontyParameters.positive c.args.traces.now c.in_ok-plan.ensures c.in_ok-all.ensures c.deref.ensures.value c.deref-2.ensures.value c.in_ok-given.ensures in
    rw (refused_is c.from_residual-in_err-soundness_count.result c.from_residual-in_err-soundness_count.ensures.1)
    (inr (c.in_err-soundness_count.field-0.0, refl, (_, _, batch, record { counts = c.in_err-soundness_count.ensures.answer; sound = c.in_err-soundness_count.ensures.sound; linear = c.in_err-soundness_count.ensures.linear })))

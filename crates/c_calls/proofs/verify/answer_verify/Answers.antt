use Rattle.std.proofs.Common.{inl, inr, refl}
use Rattle.c_calls.proofs.AnswerLaws.{refused_is}
use Rattle.c_calls.proofs.BatchLaws.{batch_read}
use Rattle.c_calls.proofs.verify.answer_verify.Goals as goal

pub returns-in_err-plan : goal.returns-in_err-plan
returns-in_err-plan g c = rw (refused_is c.from_residual.result c.from_residual.ensures.1) (inl (inl (inr (inl c.in_err-plan.ensures))))

pub returns : goal.returns
returns g c =
    let batch = batch_read g.K.MontyParameters.positive c.args.traces.now c.in_ok-plan.ensures c.in_ok-all.ensures c.deref.ensures.value c.deref-2.ensures.value c.in_ok-given.ensures in
    (c.in_ok-witness.witness, c.in_ok-witness.ensures, (_, _, _, _, batch, c.in_ok-alpha.ensures, c.in_ok-beta.ensures, record { verifies = c.in_ok-verify.ensures.answer; only = c.in_ok-verify.ensures.only; counted = c.in_ok-verify.ensures.counted; unaccepted = c.in_ok-verify.ensures.refusal }))

pub returns-in_err-verify : goal.returns-in_err-verify
returns-in_err-verify g c =
    let batch = batch_read g.K.MontyParameters.positive c.args.traces.now c.in_ok-plan.ensures c.in_ok-all.ensures c.deref.ensures.value c.deref-2.ensures.value c.in_ok-given.ensures in
    rw (refused_is c.from_residual-in_err-verify.result c.from_residual-in_err-verify.ensures.1)
    (inr (inr (c.in_err-verify.field-0.0, c.in_ok-witness.witness, refl, c.in_ok-witness.ensures, (_, _, _, _, batch, c.in_ok-alpha.ensures, c.in_ok-beta.ensures, record { verifies = c.in_err-verify.ensures.answer; only = c.in_err-verify.ensures.only; counted = c.in_err-verify.ensures.counted; unaccepted = c.in_err-verify.ensures.refusal }))))

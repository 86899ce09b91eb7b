use Rattle.std.proofs.Common.{inl, inr, refl}
use Rattle.c_calls.proofs.AnswerLaws.{refused_is}
use Rattle.c_calls.proofs.BatchLaws.{batch_read}
use Rattle.c_calls.proofs.prove.prove_tables.Goals as goal

pub returns-in_err-plan : goal.returns-in_err-plan
returns-in_err-plan g c = rw (refused_is c.from_residual.result c.from_residual.ensures.1) (inl (inl (inr (inl c.in_err-plan.ensures))))

pub returns : goal.returns
returns g c =
    let batch = batch_read g.K.MontyParameters.positive c.args.traces.now c.in_ok-plan.ensures c.in_ok-all.ensures c.deref.ensures.value c.deref-2.ensures.value c.in_ok-given.ensures in
    (_, _, _, _, batch, c.in_ok-alpha.ensures, c.in_ok-beta.ensures, record { proves = c.in_ok-prove.ensures.answer; succeeds = c.in_ok-prove.ensures.succeeds; satisfied = c.in_ok-prove.ensures.satisfied; balanced = c.in_ok-prove.ensures.balanced })

pub returns-in_err-prove : goal.returns-in_err-prove
returns-in_err-prove g c =
    let batch = batch_read g.K.MontyParameters.positive c.args.traces.now c.in_ok-plan.ensures c.in_ok-all.ensures c.deref.ensures.value c.deref-2.ensures.value c.in_ok-given.ensures in
    rw (refused_is c.from_residual-in_err-prove.result c.from_residual-in_err-prove.ensures.1)
    (inr (c.in_err-prove.field-0.0, refl, (_, _, _, _, batch, c.in_ok-alpha.ensures, c.in_ok-beta.ensures, record { proves = c.in_err-prove.ensures.answer; succeeds = c.in_err-prove.ensures.succeeds; satisfied = c.in_err-prove.ensures.satisfied; balanced = c.in_err-prove.ensures.balanced })))

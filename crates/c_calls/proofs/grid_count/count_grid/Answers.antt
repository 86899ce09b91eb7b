use Rattle.std.proofs.Common.{◌∙◌, inl, inr, refl}
use Rattle.c_calls.proofs.AnswerLaws.{refused_is}
use Rattle.c_calls.proofs.BatchLaws.{batch_read}
use Rattle.c_calls.proofs.grid_count.count_grid.Goals as goal

pub returns-in_err-plan : goal.returns-in_err-plan
returns-in_err-plan g c = rw (refused_is c.from_residual.result c.from_residual.ensures.1) (inl (inr (inl c.in_err-plan.ensures)))

pub returns : goal.returns
returns g c =
    let batch = batch_read g.K.MontyParameters.positive c.args.traces.now c.in_ok-plan.ensures c.in_ok-all.ensures c.deref.ensures.value c.deref-2.ensures.value c.in_ok-given.ensures in
    (_, _, _, _, (c.deref-3.ensures.value ∙ c.in_ok-alphas.ensures.0, c.in_ok-alphas.ensures.1), (c.deref-4.ensures.value ∙ c.in_ok-betas.ensures.0, c.in_ok-betas.ensures.1), batch, record { counts = c.in_ok-grid_count.ensures.answer; within = c.in_ok-grid_count.ensures.within; linear = c.in_ok-grid_count.ensures.linear })

pub returns-in_err-grid_count : goal.returns-in_err-grid_count
returns-in_err-grid_count g c =
    let batch = batch_read g.K.MontyParameters.positive c.args.traces.now c.in_ok-plan.ensures c.in_ok-all.ensures c.deref.ensures.value c.deref-2.ensures.value c.in_ok-given.ensures in
    rw (refused_is c.from_residual-in_err-grid_count.result c.from_residual-in_err-grid_count.ensures.1)
    (inr (inr (inr (c.in_err-grid_count.field-0.0, refl, (_, _, _, _, (c.deref-3.ensures.value ∙ c.in_ok-alphas.ensures.0, c.in_ok-alphas.ensures.1), (c.deref-4.ensures.value ∙ c.in_ok-betas.ensures.0, c.in_ok-betas.ensures.1), batch, record { counts = c.in_err-grid_count.ensures.answer; within = c.in_err-grid_count.ensures.within; linear = c.in_err-grid_count.ensures.linear })))))

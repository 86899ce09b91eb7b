use Rattle.std.proofs.Common.{◌∙◌, ap, map, refl, false, sym, true}
use Rattle.std.proofs.lemmas.Result.{IfOk-weaker}
use Rattle.batch.specs.Runs.{plan_of, run_of}
use Rattle.batch.specs.Traces.{view_of}
use Rattle.check_judge.specs.Airs.{over_traced}
use Rattle.check_run.proofs.OpenedLaws.{acceptance, read_run}
use Rattle.check_run.proofs.witness.accept.Goals as goal

pub returns-in-Ok : goal.returns-in-Ok
returns-in-Ok g c =
    let o = c.in_ok-opened.opened in
    let traces = ap (map view_of) c.deref-2.ensures.value ∙ (c.in_ok-traces.ensures ∙ ap (map (λ a. (over_traced a).traces)) c.deref.ensures.value) in
    let over = read_run _ _ _ c.args.words o.airs.items (plan_of o.plan) o.alpha o.beta c.deref-2.result.now c.in_ok-opened.ensures traces in
    IfOk-weaker c.accepted.result _ _ (λ answer told. acceptance _ _ _ c.args.words c.args.given.witness.now (run_of _ (plan_of o.plan) c.deref-2.result.now o.alpha o.beta) c.in_ok-witness.witness answer true over c.in_ok-witness.ensures told.0 told.1 (λ t. c.in-Ok.ensures.answer, λ p. refl)) c.accepted.ensures

pub returns : goal.returns
returns g c =
    let o = c.in_ok-opened.opened in
    let traces = ap (map view_of) c.deref-2.ensures.value ∙ (c.in_ok-traces.ensures ∙ ap (map (λ a. (over_traced a).traces)) c.deref.ensures.value) in
    let over = read_run _ _ _ c.args.words o.airs.items (plan_of o.plan) o.alpha o.beta c.deref-2.result.now c.in_ok-opened.ensures traces in
    IfOk-weaker c.not_accepted.result _ _ (λ answer told. acceptance _ _ _ c.args.words c.args.given.witness.now (run_of _ (plan_of o.plan) c.deref-2.result.now o.alpha o.beta) c.in_ok-witness.witness answer false over c.in_ok-witness.ensures told.0 told.1 (λ t. absurd (cc t), λ p. absurd (c.in-Err.ensures.refusal (λ e. cc (sym c.if-is_memory.false ∙ c.is_memory.ensures.1 e)) p.0 p.1 p.2))) c.not_accepted.ensures

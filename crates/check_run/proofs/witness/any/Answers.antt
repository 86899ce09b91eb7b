use Rattle.std.proofs.Common.{◌∙◌, ap, inl, inr, map, lt-ltb, ltb-true, subst₂, sym, Err}
use Rattle.std.proofs.lemmas.Result.{MatchResult-weaker}
use Rattle.batch.specs.Grids.{CountsPlanGrid}
use Rattle.batch.specs.Runs.{plan_of, run_of}
use Rattle.batch.specs.Traces.{view_of}
use Rattle.field_words.specs.Fields.{run_fields}
use Rattle.check_run.specs.Runs.{decision_line}
use Rattle.check_judge.specs.Airs.{over_traced}
use Rattle.check_judge.proofs.CauseLaws.{kept_refusal}
use Rattle.check_run.proofs.OpenedLaws.{one_pair, read_run}
use Rattle.check_run.proofs.witness.any.Goals as goal

pub returns-in-Ok : goal.returns-in-Ok
returns-in-Ok g c =
    let o = c.in_ok-opened.opened in
    let traces = ap (map view_of) c.deref-2.ensures.value ∙ (c.in_ok-traces.ensures ∙ ap (map (λ a. (over_traced a).traces)) c.deref.ensures.value) in
    let over = read_run _ _ _ c.args.words o.airs.items (plan_of o.plan) o.alpha o.beta c.deref-2.result.now c.in_ok-opened.ensures traces in
    let count = c.in-Ok.field-0.accepted in
    let pair = one_pair _ c.deref-3.result.now c.deref-4.result.now o.alpha o.beta count (c.deref-3.ensures.value ∙ c.in_ok-alphas.ensures) (c.deref-4.ensures.value ∙ c.in_ok-betas.ensures) c.in-Ok.ensures.answer.3.accepted in
    MatchResult-weaker c.decided.result c.decided.ensures (λ answer told. record {
      run = run_of _ (plan_of o.plan) c.deref-2.result.now o.alpha o.beta;
      over = over;
      yes = (λ t. pair.0 (ltb-true 0 count (sym told.0 ∙ t)), λ p. told.0 ∙ lt-ltb 0 count (pair.1 p));
      told = told.1 ∙ ap decision_line (sym told.0);
    }) (λ e memory. inl memory)

pub returns : goal.returns
returns g c =
    let o = c.in_ok-opened.opened in
    let traces = ap (map view_of) c.deref-2.ensures.value ∙ (c.in_ok-traces.ensures ∙ ap (map (λ a. (over_traced a).traces)) c.deref.ensures.value) in
    let over = read_run _ _ _ c.args.words o.airs.items (plan_of o.plan) o.alpha o.beta c.deref-2.result.now c.in_ok-opened.ensures traces in
    let fields = run_fields g.F.PrimeCharacteristicRing.ring g.F.PartialEq.eq g.F.PrimeCharacteristicRing.CHARACTERISTIC g.EF.PrimeCharacteristicRing.ring g.EF.PartialEq.eq g.EF.ExtensionDomain.embed g.EF.Field.inverse g.EF.Challenge.written g.EF.Field.text g.F.Field.text in
    let one = subst₂ (λ alphas betas. CountsPlanGrid fields.extension (plan_of o.plan) c.deref-2.result.now alphas betas (Err c.in-Err.error)) (c.deref-3.ensures.value ∙ c.in_ok-alphas.ensures) (c.deref-4.ensures.value ∙ c.in_ok-betas.ensures) c.in-Err.ensures.answer in
    elim (kept_refusal c.in-Err.error) [
      | inl memory ↦ inl (c.in_ok-of_judge-in-Err.ensures (c.from-fault.ensures ∙ memory))
      | inr kept ↦ inr (inr (run_of _ (plan_of o.plan) c.deref-2.result.now o.alpha o.beta, over, c.in-Err.error, one, kept.0))
    ]

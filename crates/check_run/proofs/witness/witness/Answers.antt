use Rattle.std.proofs.Common.{◌∙◌, ◌++◌, ap, inl, inr, map, refl}
use Rattle.batch.specs.Runs.{plan_of, run_of}
use Rattle.batch.specs.Traces.{view_of}
use Rattle.lookup_model.specs.Batches.Witnesses.{results_of}
use Rattle.language_witness.specs.Lines.{witness_lines}
use Rattle.check_judge.specs.Airs.{over_traced}
use Rattle.check_judge.proofs.CauseLaws.{kept_refusal}
use Rattle.check_run.proofs.OpenedLaws.{read_run}
use Rattle.check_run.proofs.witness.witness.Goals as goal

pub returns-in-Ok : goal.returns-in-Ok
returns-in-Ok g c =
    let o = c.in_ok-opened.opened in
    let traces = ap (map view_of) c.deref-2.ensures.value ∙ (c.in_ok-traces.ensures ∙ ap (map (λ a. (over_traced a).traces)) c.deref.ensures.value) in
    record {
      run = run_of _ (plan_of o.plan) c.deref-2.result.now o.alpha o.beta;
      over = read_run _ _ _ c.args.words o.airs.items (plan_of o.plan) o.alpha o.beta c.deref-2.result.now c.in_ok-opened.ensures traces;
      witness = c.in-Ok.witness;
      proved = c.in-Ok.ensures.answer;
      satisfied = c.in-Ok.ensures.satisfied;
      told = ap (λ v. v.items) c.into_bytes.ensures.value ∙ (c.in_ok-push_witness-in-Ok.ensures ∙ ap (λ b. b ++ witness_lines g.EF.Field.text (results_of c.in-Ok.witness)) c.new-text.ensures.bytes);
      yes = refl;
    }

pub returns : goal.returns
returns g c =
    let o = c.in_ok-opened.opened in
    let traces = ap (map view_of) c.deref-2.ensures.value ∙ (c.in_ok-traces.ensures ∙ ap (map (λ a. (over_traced a).traces)) c.deref.ensures.value) in
    let over = read_run _ _ _ c.args.words o.airs.items (plan_of o.plan) o.alpha o.beta c.deref-2.result.now c.in_ok-opened.ensures traces in
    elim (kept_refusal c.in-Err.error) [
      | inl memory ↦ inl (c.in_ok-of_judge-in-Err.ensures (c.from-fault.ensures ∙ memory))
      | inr kept ↦ inr (inr (run_of _ (plan_of o.plan) c.deref-2.result.now o.alpha o.beta, over, c.in-Err.error, c.in-Err.ensures.answer, kept.0))
    ]

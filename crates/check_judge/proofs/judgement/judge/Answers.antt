use Rattle.std.proofs.Common.{◌≡◌, ◌↔◌, ◌∙◌, All, Global, IsTrue, List, Option, None, Vec, ap, inl, inr, map, refl, subst, sym}
use Rattle.std.proofs.lemmas.Result.{err_from_is_err_and}
use Rattle.std.proofs.lemmas.Simd.{map-map}
use Rattle.batch.specs.Runs.{plan_of}
use Rattle.batch.specs.Traces.{view_of}
use Rattle.field.specs.Ring.{of_nat}
use Rattle.lookup_debug.specs.BusTable.{row_of}
use Rattle.lookup_debug.specs.Contributions.{Traced, traced_of}
use Rattle.field.specs.Signs.{is_negative}
use Rattle.language_meaning.specs.Tables.{tables_of}
use Rattle.language.specs.Batches.{section_of}
use Rattle.check_judge.specs.Causes.{IsReportRefusal}
use Rattle.check_judge.specs.Found.{IsPlanOf, sized_of}
use Rattle.check_judge.specs.Said.{airs_of}
use Rattle.check_judge.specs.Airs.{AreFittingAirs, over_traced}
use Rattle.check_judge.specs.Constraints.{AreChecked, over_constrained}
use Rattle.std.specs.List.{AllZip}
use Rattle.check_judge.specs.Enforced.{AreEnforcedOver, IsEnforcedOver}
use Rattle.check_judge.specs.Excesses.{AreExcesses}
use Rattle.check_judge.specs.declared.constraints.ConstraintFailure.{ConstraintFailure}
use Rattle.check_judge.specs.declared.enforced.EnforcedAir.{EnforcedAir}
use Rattle.check_judge.specs.declared.excess.Excess.{Excess}
use Rattle.check_judge.proofs.ExcessLaws.{within_exactly}
use Rattle.check_judge.proofs.SizeLaws.{images_zip}
use Rattle.check_judge.specs.internal.Sizes.{sized_lookups_of}
use Rattle.check_judge.specs.internal.Sharing.{AllHaveTuples}
use Rattle.check_judge.proofs.CauseLaws.{kept_refusal}
use Rattle.check_judge.proofs.ConstraintLaws.{checked_over, hold_exactly}
use Rattle.check_judge.proofs.FittingLaws.{fitting_instances}
use Rattle.check_judge.proofs.JudgeLaws.{balanced_over, planned_over}
use Rattle.check_judge.proofs.TupleLaws.{traced_there}
use Rattle.check_judge.proofs.judgement.judge.Goals as goal

pub bus_table-requires-clause-fit : goal.bus_table-requires-clause-fit
bus_table-requires-clause-fit g c = λ k d lt. (fitting_instances c.deref-3.result.now c.in_ok-airs.field-0.airs.items c.deref-4.result.now c.in_ok-instances.instances.items c.deref-3.ensures.value c.deref-4.ensures.value c.in_ok-instances.ensures c.in_ok-airs.ensures.fit k d lt).fit

pub bus_table-requires-clause-heights : goal.bus_table-requires-clause-heights
bus_table-requires-clause-heights g c = λ k d lt. (fitting_instances c.deref-3.result.now c.in_ok-airs.field-0.airs.items c.deref-4.result.now c.in_ok-instances.instances.items c.deref-3.ensures.value c.deref-4.ensures.value c.in_ok-instances.ensures c.in_ok-airs.ensures.fit k d lt).heights

pub enforced_over-requires : goal.enforced_over-requires
enforced_over-requires g c = subst AreFittingAirs (sym c.deref-10.ensures.value) c.in_ok-airs.ensures.fit

pub report_plan-requires-clause-planned : goal.report_plan-requires-clause-planned
report_plan-requires-clause-planned g c =
    let sizes = ap (map sized_lookups_of) c.deref-7.ensures.value ∙ (c.in_ok-sizes.ensures ∙ ap (map (λ a. sized_of (over_traced a))) c.deref-6.ensures.value) in
    subst (λ s. IsPlanOf g.F.PrimeCharacteristicRing.CHARACTERISTIC s (plan_of c.in_ok-airs.field-0.plan)) (sym sizes) c.in_ok-airs.ensures.planned

pub report_plan-requires-clause-tuples : goal.report_plan-requires-clause-tuples
report_plan-requires-clause-tuples g c =
    let airs = c.in_ok-airs.field-0.airs.items in
    let sections = map section_of c.args.batch.now.sections.items in
    let sizes = ap (map sized_lookups_of) c.deref-7.ensures.value ∙ (c.in_ok-sizes.ensures ∙ (ap (map (λ a. sized_of (over_traced a))) c.deref-6.ensures.value ∙ sym (map-map sized_of over_traced airs))) in
    subst AllHaveTuples (sym sizes) (traced_there (of_nat g.F.PrimeCharacteristicRing.ring) c.args.text.now sections 1048576 (airs_of sections) (map tables_of c.args.tables.now) (map over_traced airs) c.in_ok-airs.ensures.said.1)

pub returns-clause-found : goal.returns-clause-found
returns-clause-found g c =
    let airs = c.in_ok-airs.field-0.airs.items in
    let traced = map over_traced airs in
    let plan = plan_of c.in_ok-airs.field-0.plan in
    let sizes = ap (map sized_lookups_of) c.deref-7.ensures.value ∙ (c.in_ok-sizes.ensures ∙ (ap (map (λ a. sized_of (over_traced a))) c.deref-6.ensures.value ∙ sym (map-map sized_of over_traced airs))) in
    let traces = ap (map view_of) c.deref-2.ensures.value ∙ (c.in_ok-traces.ensures ∙ (ap (map (λ a. (over_traced a).traces)) c.deref.ensures.value ∙ sym (map-map (λ (t : Traced _). t.traces) over_traced airs))) in
    let instances = ap (map traced_of) c.deref-4.ensures.value ∙ (c.in_ok-instances.ensures ∙ ap (map over_traced) c.deref-3.ensures.value) in
    let found = balanced_over _ _ (map traced_of c.deref-4.result.now) traced instances c.in_ok-groups.groups.items c.deref-5.result.now c.all_balance-balanced.result c.args.limit (is_negative g.F.PrimeCharacteristicRing.CHARACTERISTIC g.F.SignedField.number) (map row_of c.in_ok-groups.groups.items) c.deref-5.ensures.value c.all_balance-balanced.ensures c.in_ok-groups.ensures.balance c.in_ok-groups.ensures.rows in (
      c.in_ok-airs.ensures.said.0,
      traced,
      c.in_ok-airs.ensures.said.1,
      record {
        plan = plan;
        planned = planned_over _ _ c.args.max_degree (map sized_lookups_of c.deref-7.result.now) (map sized_of traced) plan c.in_ok-plan.plan sizes c.in_ok-plan.ensures;
        counts = record {
          traces = c.deref-2.result.now;
          traces_are = traces;
          fit = c.in_ok-counts.ensures.answer.0;
          flags = c.in_ok-counts.ensures.answer.1;
          counted = c.in_ok-counts.ensures.answer.2;
          sound = c.in_ok-counts.ensures.linear;
        };
        table = found.0;
        balanced = found.1;
      },
    )

pub failures_of-requires : goal.failures_of-requires
failures_of-requires g c = subst AreFittingAirs (sym c.deref-8.ensures.value) c.in_ok-airs.ensures.fit

pub excesses_of-requires : goal.excesses_of-requires
excesses_of-requires g c = subst AreFittingAirs (sym c.deref-11.ensures.value) c.in_ok-airs.ensures.fit

pub returns-clause-constraints : goal.returns-clause-constraints
returns-clause-constraints g c =
    let R = g.F.PrimeCharacteristicRing.ring in
    let eq = g.F.PartialEq.eq in
    let p = g.F.PrimeCharacteristicRing.CHARACTERISTIC in
    let number = g.F.SignedField.number in
    let airs = c.in_ok-airs.field-0.airs.items in
    let found = c.in_ok-failures.failures.items in
    let above = c.in_ok-excesses.excesses.items in
    let shown = c.of_airs-enforced.result.airs.items in
    let checked = subst (λ over. AreChecked R (map over_constrained over) found) c.deref-8.ensures.value (checked_over R c.deref-8.result.now found c.in_ok-failures.ensures) in
    let told = subst (λ (fs : List (Option (ConstraintFailure _))). IsTrue c.all_hold-hold.result ↔ All (λ failure. failure ≡ None) fs) c.deref-9.ensures.value c.all_hold-hold.ensures in
    let enforced = subst (λ over. AreEnforcedOver R eq (map over_constrained over) c.in_ok-enforced_over.field-0.items) c.deref-10.ensures.value (images_zip (IsEnforcedOver R eq) over_constrained c.deref-10.result.now c.in_ok-enforced_over.field-0.items c.in_ok-enforced_over.ensures) in
    let excesses = subst (λ over. AllZip (λ x f. AreExcesses p number R eq x f.items) (map over_constrained over) above) c.deref-11.ensures.value (images_zip (λ x f. AreExcesses p number R eq x f.items) over_constrained c.deref-11.result.now above c.in_ok-excesses.ensures) in
    let within = subst (λ (fs : List (Vec (Option (Excess _)) Global)). IsTrue c.are_all_within-within.result ↔ All (λ f. All (λ e. e ≡ None) f.items) fs) c.deref-12.ensures.value c.are_all_within-within.ensures in (
      map over_constrained airs,
      c.in_ok-airs.ensures.constrained,
      record {
        checked = checked;
        hold = hold_exactly R (map over_constrained airs) found c.all_hold-hold.result checked told;
        enforced = subst (λ (v : Vec EnforcedAir Global). AreEnforcedOver R eq (map over_constrained airs) v.items) (sym c.of_airs-enforced.ensures.airs) enforced;
        all_enforced = c.of_airs-enforced.ensures.all;
        excesses = excesses;
        within = within_exactly p number R eq (map over_constrained airs) above c.are_all_within-within.result excesses within;
      },
    )

pub returns-in_err-airs-clause-found : goal.returns-in_err-airs-clause-found
returns-in_err-airs-clause-found g c =
    let p = err_from_is_err_and c.from_residual.result c.from_residual.ensures.1 in
    rw (p.1, p.2) (elim c.in_err-airs.ensures.refused [
      | inl memory ↦ inl memory
      | inr (inl bus) ↦ inr (inl bus)
      | inr (inr later) ↦ inr (inr (later.0, inl later.1))
    ])

pub returns-in_err-counts-clause-found : goal.returns-in_err-counts-clause-found
returns-in_err-counts-clause-found g c =
    let airs = c.in_ok-airs.field-0.airs.items in
    let plan = plan_of c.in_ok-airs.field-0.plan in
    let planned = subst (λ s. IsPlanOf g.F.PrimeCharacteristicRing.CHARACTERISTIC s plan) (sym (map-map sized_of over_traced airs)) c.in_ok-airs.ensures.planned in
    let traces = ap (map view_of) c.deref-2.ensures.value ∙ (c.in_ok-traces.ensures ∙ (ap (map (λ a. (over_traced a).traces)) c.deref.ensures.value ∙ sym (map-map (λ (t : Traced _). t.traces) over_traced airs))) in
    let p = err_from_is_err_and c.from_residual-in_err-counts.result c.from_residual-in_err-counts.ensures.1 in
    rw (p.1, p.2) (elim (kept_refusal c.in_err-counts.field-0.0) [
      | inl memory ↦ inl memory
      | inr kept ↦ inr (inr (c.in_ok-airs.ensures.said.0, inr (map over_traced airs, plan, c.in_ok-airs.ensures.said.1, planned, (c.deref-2.result.now, traces, inl (c.in_err-counts.field-0.0, c.in_err-counts.ensures.answer, kept.0, refl)))))
    ])

pub returns-in_err-plan-clause-found : goal.returns-in_err-plan-clause-found
returns-in_err-plan-clause-found g c =
    let airs = c.in_ok-airs.field-0.airs.items in
    let plan = plan_of c.in_ok-airs.field-0.plan in
    let planned = subst (λ s. IsPlanOf g.F.PrimeCharacteristicRing.CHARACTERISTIC s plan) (sym (map-map sized_of over_traced airs)) c.in_ok-airs.ensures.planned in
    let traces = ap (map view_of) c.deref-2.ensures.value ∙ (c.in_ok-traces.ensures ∙ (ap (map (λ a. (over_traced a).traces)) c.deref.ensures.value ∙ sym (map-map (λ (t : Traced _). t.traces) over_traced airs))) in
    let sizes = ap (map sized_lookups_of) c.deref-7.ensures.value ∙ (c.in_ok-sizes.ensures ∙ (ap (map (λ a. sized_of (over_traced a))) c.deref-6.ensures.value ∙ sym (map-map sized_of over_traced airs))) in
    let p = err_from_is_err_and c.from_residual-in_err-plan.result c.from_residual-in_err-plan.ensures.1 in
    rw (p.1, p.2) (elim c.in_err-plan.ensures [
      | inl memory ↦ inl memory
      | inr refusal ↦ inr (inr (c.in_ok-airs.ensures.said.0, inr (map over_traced airs, plan, c.in_ok-airs.ensures.said.1, planned, (c.deref-2.result.now, traces, inr (c.in_ok-counts.counts, c.in_ok-counts.ensures.answer, subst (λ s. IsReportRefusal g.F.PrimeCharacteristicRing.ring g.F.PartialEq.eq c.args.max_degree s plan c.in_err-plan.field-0.0) sizes refusal)))))
    ])

use Rattle.std.proofs.Common.{◌∙◌, ap, inl, inr, map, subst, sym}
use Rattle.std.proofs.lemmas.Result.{err_from_is_err_and}
use Rattle.std.proofs.lemmas.Simd.{map-map}
use Rattle.batch.specs.Runs.{plan_of}
use Rattle.check_judge.specs.Causes.{IsPlanningRefusal}
use Rattle.check_judge.specs.Found.{IsPlanOf, sized_of}
use Rattle.check_judge.specs.Airs.{over_traced}
use Rattle.check_judge.specs.internal.Sizes.{sized_lookups_of}
use Rattle.check_judge.proofs.judgement.planned_airs.Goals as goal

pub returns-clause-planned : goal.returns-clause-planned
returns-clause-planned g c =
    let sizes = ap (map sized_lookups_of) c.deref-2.ensures.value ∙ (c.in_ok-sizes_of.ensures ∙ ap (map (λ a. sized_of (over_traced a))) c.deref.ensures.value) in
    subst (λ s. IsPlanOf g.F.PrimeCharacteristicRing.CHARACTERISTIC s (plan_of c.in_ok-plan.plan)) sizes c.in_ok-plan.ensures

pub returns-in_err-plan-clause-refused : goal.returns-in_err-plan-clause-refused
returns-in_err-plan-clause-refused g c =
    let airs = c.in_ok-airs.airs.items in
    let sizes = ap (map sized_lookups_of) c.deref-2.ensures.value ∙ (c.in_ok-sizes_of.ensures ∙ (ap (map (λ a. sized_of (over_traced a))) c.deref.ensures.value ∙ sym (map-map sized_of over_traced airs))) in
    let p = err_from_is_err_and c.from_residual-in_err-plan.result c.from_residual-in_err-plan.ensures.1 in
    rw (p.1, p.2) (elim c.in_err-plan.ensures [
      | inl memory ↦ inl memory
      | inr refusal ↦ inr (inr (sym c.check_buses.ensures ∙ c.in_ok-check_buses.was, inr (map over_traced airs, c.in_ok-airs.ensures.said, subst (λ s. IsPlanningRefusal g.F.PrimeCharacteristicRing.CHARACTERISTIC s c.in_err-plan.field-0.0) sizes refusal)))
    ])

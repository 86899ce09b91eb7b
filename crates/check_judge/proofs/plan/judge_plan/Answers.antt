use Rattle.std.proofs.Common.{◌∙◌, Global, Vec, ap, arith, inl, inr, length, map, subst, sym}
use Rattle.std.specs.List.{AllZip}
use Rattle.std.proofs.lemmas.List.{length-map}
use Rattle.std.proofs.lemmas.Result.{err_from_is_err_and}
use Rattle.std.proofs.lemmas.Slice.Zip.{AllZip-long}
use Rattle.batch.specs.Runs.{plan_of}
use Rattle.field.specs.Ring.{of_nat}
use Rattle.list_laws.proofs.Zips.{AllZip-images}
use Rattle.lookup.specs.Lookups.{lookups_of}
use Rattle.language_meaning.specs.Shapes.{shape_of}
use Rattle.language_meaning.specs.Lookups.{constraint_of, said_of}
use Rattle.language.specs.Batches.{air_of, section_of}
use Rattle.language_meaning.specs.Columns.{constraints_in}
use Rattle.check_judge.specs.Counts.{counts_in}
use Rattle.check_judge.specs.Enforced.{AreEnforcedAirs, IsEnforcedAir}
use Rattle.check_judge.specs.internal.Asserted.{asserted_air_of}
use Rattle.check_judge.specs.declared.enforced.EnforcedAir.{EnforcedAir}
use Rattle.check_judge.specs.Causes.{IsPlanningRefusal, IsReportRefusal}
use Rattle.check_judge.specs.Found.{IsPlanOf, sized_over}
use Rattle.check_judge.specs.Said.{AreLookupsOf, airs_of}
use Rattle.check_judge.specs.internal.Sizes.{sized_lookups_of}
use Rattle.check_judge.specs.internal.Sharing.{AllHaveTuples}
use Rattle.check_judge.proofs.AirLaws.{says_airs, says_long}
use Rattle.check_judge.proofs.EnforcedLaws.{asserted}
use Rattle.check_judge.proofs.SizeLaws.{images_zip}
use Rattle.check_judge.proofs.JudgeLaws.{planned_over}
use Rattle.check_judge.proofs.TupleLaws.{planned_there}
use Rattle.check_judge.proofs.plan.judge_plan.Goals as goal

pub sized_airs-requires : goal.sized_airs-requires
sized_airs-requires g c =
    let sections = map section_of c.args.batch.now.sections.items in
    let shapes = c.args.shapes.now in
    let named = c.in_ok-named.named.items in
    let said = says_long c.args.text.now sections 1048576 1048576 (airs_of sections) (map shape_of shapes) (map said_of named) c.in_ok-named.ensures in
    let sets = AllZip-long _ c.deref.result.now c.in_ok-sets.sets.items c.in_ok-sets.ensures in
    omega (arith, said, sets, length-map shapes shape_of, length-map named said_of, ap length c.deref.ensures.value, ap length c.deref-2.ensures.value)

pub report_plan-requires-clause-tuples : goal.report_plan-requires-clause-tuples
report_plan-requires-clause-tuples g c =
    let sections = map section_of c.args.batch.now.sections.items in
    let shapes = map shape_of c.args.shapes.now in
    let named = c.in_ok-named.named.items in
    let sets = c.in_ok-sets.sets.items in
    let element = of_nat g.F.PrimeCharacteristicRing.ring in
    let sizes = ap (map sized_lookups_of) c.deref-4.ensures.value ∙ (c.in_ok-airs.ensures ∙ ap (λ ss. sized_over (map lookups_of ss) shapes) c.deref-2.ensures.value) in
    let lookups = AllZip-images (AreLookupsOf element c.args.text.now) said_of lookups_of c.deref.result.now sets c.in_ok-sets.ensures in
    let said = subst (λ ns. AllZip (AreLookupsOf element c.args.text.now) (map said_of ns) (map lookups_of sets)) c.deref.ensures.value lookups in
    subst AllHaveTuples (sym sizes) (planned_there element c.args.text.now sections 1048576 (airs_of sections) shapes (map said_of named) (map lookups_of sets) c.in_ok-named.ensures said)

pub returns-in_err-plan : goal.returns-in_err-plan
returns-in_err-plan g c =
    let shapes = map shape_of c.args.shapes.now in
    let sets = c.in_ok-sets.sets.items in
    let named = c.in_ok-named.named.items in
    let element = of_nat g.F.PrimeCharacteristicRing.ring in
    let lookups = AllZip-images (AreLookupsOf element c.args.text.now) said_of lookups_of c.deref.result.now sets c.in_ok-sets.ensures in
    let sizes = ap (map sized_lookups_of) c.deref-3.ensures.value ∙ (c.in_ok-airs.ensures ∙ ap (λ ss. sized_over (map lookups_of ss) shapes) c.deref-2.ensures.value) in
    let said = subst (λ ns. AllZip (AreLookupsOf element c.args.text.now) (map said_of ns) (map lookups_of sets)) c.deref.ensures.value lookups in
    let p = err_from_is_err_and c.from_residual-in_err-plan.result c.from_residual-in_err-plan.ensures.1 in
    rw (p.1, p.2) (elim c.in_err-plan.ensures [
      | inl memory ↦ inl memory
      | inr refusal ↦ inr (inr (sym c.check_buses.ensures ∙ c.in_ok-check_buses.was, inr (map said_of named, c.in_ok-named.ensures, inr (map lookups_of sets, said, inl (subst (λ airs. IsPlanningRefusal g.F.PrimeCharacteristicRing.CHARACTERISTIC airs c.in_err-plan.field-0.0) sizes refusal)))))
    ])

pub asserted_airs-requires-clause-said : goal.asserted_airs-requires-clause-said
asserted_airs-requires-clause-said g c =
    let sections = map section_of c.args.batch.now.sections.items in
    let shapes = c.args.shapes.now in
    let named = c.in_ok-named.named.items in
    let said = c.in_ok-said.said.items in
    let airs = says_airs c.args.text.now sections 1048576 1048576 (airs_of sections) (map shape_of shapes) (map said_of named) c.in_ok-named.ensures in
    omega (arith, airs, ap length c.in_ok-said.ensures, length-map said (λ a. air_of a.now), length-map shapes shape_of, ap length c.deref-5.ensures.value)

pub asserted_airs-requires-clause-named : goal.asserted_airs-requires-clause-named
asserted_airs-requires-clause-named g c =
    let sections = map section_of c.args.batch.now.sections.items in
    let shapes = c.args.shapes.now in
    let named = c.in_ok-named.named.items in
    let said = says_long c.args.text.now sections 1048576 1048576 (airs_of sections) (map shape_of shapes) (map said_of named) c.in_ok-named.ensures in
    omega (arith, said, length-map shapes shape_of, length-map named said_of, ap length c.deref-6.ensures.value)

pub asserted_airs-requires-clause-sets : goal.asserted_airs-requires-clause-sets
asserted_airs-requires-clause-sets g c =
    let sections = map section_of c.args.batch.now.sections.items in
    let shapes = c.args.shapes.now in
    let named = c.in_ok-named.named.items in
    let said = says_long c.args.text.now sections 1048576 1048576 (airs_of sections) (map shape_of shapes) (map said_of named) c.in_ok-named.ensures in
    let sets = AllZip-long _ c.deref.result.now c.in_ok-sets.sets.items c.in_ok-sets.ensures in
    omega (arith, said, sets, length-map shapes shape_of, length-map named said_of, ap length c.deref.ensures.value, ap length c.deref-7.ensures.value)

pub returns-in_err-report : goal.returns-in_err-report
returns-in_err-report g c =
    let shapes = map shape_of c.args.shapes.now in
    let sets = c.in_ok-sets.sets.items in
    let named = c.in_ok-named.named.items in
    let element = of_nat g.F.PrimeCharacteristicRing.ring in
    let plan = plan_of c.in_ok-plan.plan in
    let before = c.in_ok-airs.ensures ∙ ap (λ ss. sized_over (map lookups_of ss) shapes) c.deref-2.ensures.value in
    let sizes = ap (map sized_lookups_of) c.deref-4.ensures.value ∙ before in
    let planned = subst (λ airs. IsPlanOf g.F.PrimeCharacteristicRing.CHARACTERISTIC airs plan) (ap (map sized_lookups_of) c.deref-3.ensures.value ∙ before) c.in_ok-plan.ensures in
    let lookups = AllZip-images (AreLookupsOf element c.args.text.now) said_of lookups_of c.deref.result.now sets c.in_ok-sets.ensures in
    let said = subst (λ ns. AllZip (AreLookupsOf element c.args.text.now) (map said_of ns) (map lookups_of sets)) c.deref.ensures.value lookups in
    let p = err_from_is_err_and c.from_residual-in_err-report.result c.from_residual-in_err-report.ensures.1 in
    rw (p.1, p.2) (elim c.in_err-report.ensures [
      | inl memory ↦ inl memory
      | inr refusal ↦ inr (inr (sym c.check_buses.ensures ∙ c.in_ok-check_buses.was, inr (map said_of named, c.in_ok-named.ensures, inr (map lookups_of sets, said, inr (plan, planned, subst (λ airs. IsReportRefusal g.F.PrimeCharacteristicRing.ring g.F.PartialEq.eq c.args.max_degree airs plan c.in_err-report.field-0.0) sizes refusal)))))
    ])

pub returns : goal.returns
returns g c =
    let R = g.F.PrimeCharacteristicRing.ring in
    let eq = g.F.PartialEq.eq in
    let text = c.args.text.now in
    let sections = map section_of c.args.batch.now.sections.items in
    let shapes = map shape_of c.args.shapes.now in
    let sets = c.in_ok-sets.sets.items in
    let named = c.in_ok-named.named.items in
    let element = of_nat R in
    let plan = plan_of c.in_ok-plan.plan in
    let found = c.in_ok-asserted.asserted.items in
    let over = sized_over (map lookups_of sets) shapes in
    let lookups = AllZip-images (AreLookupsOf element text) said_of lookups_of c.deref.result.now sets c.in_ok-sets.ensures in
    let before = c.in_ok-airs.ensures ∙ ap (λ ss. sized_over (map lookups_of ss) shapes) c.deref-2.ensures.value in
    let sizes = ap (map sized_lookups_of) c.deref-4.ensures.value ∙ before in
    let said = subst (λ ns. AllZip (AreLookupsOf element text) (map said_of ns) (map lookups_of sets)) c.deref.ensures.value lookups in
    let are = asserted element text (airs_of sections) c.args.shapes.now named c.in_ok-said.said.items sets found c.in_ok-said.ensures said
    (c.in_ok-asserted.ensures.lookups ∙ ap (map lookups_of) c.deref-7.ensures.value)
    (c.in_ok-asserted.ensures.constraints ∙ ap (map (λ n. constraints_in element (map constraint_of n.constraints.items))) c.deref-6.ensures.value)
    (c.in_ok-asserted.ensures.counts ∙ ap (map (λ a. counts_in (air_of a.now).items)) c.deref-5.ensures.value)
    c.in_ok-asserted.ensures.heights in
    let enforced = images_zip (IsEnforcedAir R eq) asserted_air_of c.deref-8.result.now c.in_ok-enforced_before.field-0.items c.in_ok-enforced_before.ensures in
    let there = subst (λ airs. AreEnforcedAirs R eq (map asserted_air_of airs) c.in_ok-enforced_before.field-0.items) c.deref-8.ensures.value enforced in (
      sym c.check_buses.ensures ∙ c.in_ok-check_buses.was,
      map said_of named,
      map lookups_of sets,
      plan,
      map asserted_air_of found,
      c.in_ok-named.ensures,
      said,
      planned_over _ _ c.args.max_degree (map sized_lookups_of c.deref-4.result.now) over plan c.in_ok-report.report sizes c.in_ok-report.ensures,
      are,
      subst (λ (v : Vec EnforcedAir Global). AreEnforcedAirs R eq (map asserted_air_of found) v.items) (sym c.of_airs-enforced.ensures.airs) there,
      c.of_airs-enforced.ensures.all,
    )

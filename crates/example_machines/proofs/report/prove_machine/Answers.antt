use Rattle.std.proofs.Common.{inl, inr, ap, ◌∙◌}
use Rattle.std.proofs.lemmas.Result.{err_from_is_err_and}
use Rattle.field.specs.laws.Extension.{of_laws}
use Rattle.batch.specs.Runs.{plan_of}
use Rattle.example_machines.specs.Refusal.{of_batch}
use Rattle.example_machines.proofs.PlannedBatches.{is_heavy, proved, refused, shown_is}
use Rattle.example_machines.proofs.report.prove_machine.Goals as goal

pub returns-in_err-plan : goal.returns-in_err-plan
returns-in_err-plan g c =
    let p = err_from_is_err_and c.from_residual-in_err-plan.result c.from_residual-in_err-plan.ensures.1 in
    rw (p.1, p.2) (elim c.in_err-plan.ensures [
      | inl memory ↦ inl (ap of_batch memory)
      | inr refusal ↦ inr (inl (is_heavy g.F.PrimeCharacteristicRing.ring g.F.PartialEq.eq c.args.input.now c.args.machine c.args.traces.items c.requires.traces g.F.PrimeCharacteristicRing.CHARACTERISTIC g.met.F.PrimeCharacteristicRing.prime c.in_ok-lookups.field-0.lookups.items c.in_ok-lookups.field-0.heights.items c.in_ok-lookups.ensures.0 c.in_ok-lookups.ensures.2 _ refusal))
    ])

pub returns-in_err-witness : goal.returns-in_err-witness
returns-in_err-witness g c =
    let E = of_laws g.met.EF.ExtensionField.lawful_fields in
    let p = err_from_is_err_and c.from_residual-in_err-witness.result c.from_residual-in_err-witness.ensures.1 in
    let plan = c.in_ok-plan.plan in
    let shown = shown_is c.args.traces.items c.as_slice.result.now c.in_ok-lookups.field-0.mains.items c.as_slice.ensures.value c.in_ok-traces.traces.items c.in_ok-traces.ensures c.as_slice-2.result.now c.as_slice-2.ensures.value c.in_ok-lookups.ensures.1 in
    rw (p.1, p.2) (refused E c.args.machine c.args.challenges.0 c.args.challenges.1 c.args.input.now c.args.traces.items c.requires.traces
    g.F.PrimeCharacteristicRing.CHARACTERISTIC (plan_of plan) plan.facts c.in_ok-plan.ensures.numbered (c.in_ok-plan.ensures.airs_are ∙ c.in_ok-lookups.ensures.0) (c.in_ok-plan.ensures.heights_are ∙ c.in_ok-lookups.ensures.2)
    _ shown c.requires.width c.requires.rows _ c.in_err-witness.ensures.answer)

pub returns : goal.returns
returns g c =
    let E = of_laws g.met.EF.ExtensionField.lawful_fields in
    let plan = c.in_ok-plan.plan in
    let shown = shown_is c.args.traces.items c.as_slice.result.now c.in_ok-lookups.field-0.mains.items c.as_slice.ensures.value c.in_ok-traces.traces.items c.in_ok-traces.ensures c.as_slice-2.result.now c.as_slice-2.ensures.value c.in_ok-lookups.ensures.1 in
    proved E c.args.machine c.args.challenges.0 c.args.challenges.1 c.args.input.now c.args.traces.items c.requires.traces
    g.F.PrimeCharacteristicRing.CHARACTERISTIC (plan_of plan) plan.facts c.in_ok-plan.ensures.numbered (c.in_ok-plan.ensures.airs_are ∙ c.in_ok-lookups.ensures.0) (c.in_ok-plan.ensures.heights_are ∙ c.in_ok-lookups.ensures.2)
    _ shown c.in_ok-witness.witness c.in_ok-witness.ensures.answer

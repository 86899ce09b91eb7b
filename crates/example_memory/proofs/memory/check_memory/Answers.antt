use Rattle.std.proofs.Common.{◌≡◌, [], ◌∷◌, Err, map, refl, ap, ◌∙◌}
use Rattle.std.proofs.lemmas.Result.{err_from_is_err_and}
use Rattle.field.specs.laws.Extension.{of_laws}
use Rattle.batch.specs.Runs.{plan_of}
use Rattle.batch.specs.Traces.{traces_of_main, view_of}
use Rattle.example_memory.specs.Memory.{mains_of}
use Rattle.example_memory.proofs.BatchLaws.{memory_accepted, memory_refused, prove_refused}
use Rattle.example_memory.proofs.memory.check_memory.Goals as goal

pub returns-in_err-witness-clause-refused : goal.returns-in_err-witness-clause-refused
returns-in_err-witness-clause-refused g c =
    let E = of_laws g.met.EF.ExtensionField.lawful_fields in
    let shown : map view_of c.as_slice-traces.result.now ≡ map traces_of_main (mains_of c.args.traces.now) = ap (map view_of) c.as_slice-traces.ensures ∙ (λ i. c.alone.ensures i ∷ c.alone-2.ensures i ∷ c.alone-3.ensures i ∷ []) in
    let e = c.in_err-witness.field-0.0 in
    let p = err_from_is_err_and c.from_residual.result c.from_residual.ensures.1 in
    rw (p.1, p.2) (prove_refused E (plan_of c.args.plan.now) (mains_of c.args.traces.now) c.args.alpha c.args.beta c.as_slice-traces.result.now shown
    e (Err e) refl c.in_err-witness.ensures.answer)

pub returns-clause-accepted : goal.returns-clause-accepted
returns-clause-accepted g c =
    let E = of_laws g.met.EF.ExtensionField.lawful_fields in
    let shown : map view_of c.as_slice-traces.result.now ≡ map traces_of_main (mains_of c.args.traces.now) = ap (map view_of) c.as_slice-traces.ensures ∙ (λ i. c.alone.ensures i ∷ c.alone-2.ensures i ∷ c.alone-3.ensures i ∷ []) in
    let made = c.in_ok-witness.ensures in
    memory_accepted E (plan_of c.args.plan.now) (mains_of c.args.traces.now) c.args.alpha c.args.beta c.as_slice-traces.result.now shown
    c.in_ok-witness.witness made.answer.0 made.answer.1.0 made.answer.1.1 made.answer.1.2 made.balanced c.verify.result c.verify.ensures.answer c.verify.ensures.counted

pub returns-clause-refused : goal.returns-clause-refused
returns-clause-refused g c =
    let E = of_laws g.met.EF.ExtensionField.lawful_fields in
    let shown : map view_of c.as_slice-traces.result.now ≡ map traces_of_main (mains_of c.args.traces.now) = ap (map view_of) c.as_slice-traces.ensures ∙ (λ i. c.alone.ensures i ∷ c.alone-2.ensures i ∷ c.alone-3.ensures i ∷ []) in
    let made = c.in_ok-witness.ensures in
    memory_refused E (plan_of c.args.plan.now) (mains_of c.args.traces.now) c.args.alpha c.args.beta c.as_slice-traces.result.now shown
    c.in_ok-witness.witness made.answer.0 made.answer.1.0 made.answer.1.1 made.answer.1.2 made.balanced c.verify.result c.verify.ensures.answer c.verify.ensures.refusal

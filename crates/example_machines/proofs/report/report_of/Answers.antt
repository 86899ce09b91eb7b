use Rattle.std.proofs.Common.{◌≡◌, ℕ, inl, inr, List, subst, sym, ap, ◌∙◌}
use Rattle.std.proofs.lemmas.Result.{err_from_is_err_and}
use Rattle.std.specs.List.{AllZip}
use Rattle.example_machines.specs.Input.{IsInput}
use Rattle.example_machines.specs.Machines.{airs_of}
use Rattle.example_machines.specs.declared.traces.AirTrace.{AirTrace}
use Rattle.example_machines.specs.internal.Traces.{IsTraceOf}
use Rattle.example_machines.proofs.MismatchLaws.{flags_boolean}
use Rattle.example_machines.specs.Report.{verdict_line}
use Rattle.field_words.specs.Fields.{run_fields}
use Rattle.example_machines.proofs.VerdictLaws.{after_nothing, report_is}
use Rattle.example_machines.proofs.report.report_of.Goals.{then-balanced, else-balanced}
use Rattle.example_machines.proofs.report.report_of.Goals as goal

pub returns-in_err-witness : goal.returns-in_err-witness
returns-in_err-witness g c =
    let fields = run_fields g.F.PrimeCharacteristicRing.ring g.F.PartialEq.eq g.F.PrimeCharacteristicRing.CHARACTERISTIC g.EF.PrimeCharacteristicRing.ring g.EF.PartialEq.eq g.EF.ExtensionDomain.embed g.EF.Field.inverse g.EF.Challenge.written g.EF.Field.text g.F.Field.text in
    let p = err_from_is_err_and c.from_residual-in_err-witness.result c.from_residual-in_err-witness.ensures.1 in
    let read = subst (λ (columns : ℕ). IsInput fields.extension.base columns fields.bound c.args.input.now c.in_ok-rows.rows) c.columns.ensures.columns c.in_ok-rows.ensures.cases in
    rw (p.1, p.2) (elim c.in_err-witness.ensures [
      | inl memory ↦ inl memory
      | inr refusal ↦ inr (inr (c.in_ok-rows.rows, read, refusal))
    ])

pub returns : goal.returns
returns g c =
    let fields = run_fields g.F.PrimeCharacteristicRing.ring g.F.PartialEq.eq g.F.PrimeCharacteristicRing.CHARACTERISTIC g.EF.PrimeCharacteristicRing.ring g.EF.PartialEq.eq g.EF.ExtensionDomain.embed g.EF.Field.inverse g.EF.Challenge.written g.EF.Field.text g.F.Field.text in
    let verdict : c.if-balanced.push_str.now ≡ verdict_line c.is_ok-balanced.result =
    elim c.if-balanced.branch [
      | then-balanced w ↦ ap (λ s. s.now) w.push_str-is ∙ ap verdict_line (sym w.if-balanced.true)
      | else-balanced w ↦ ap (λ s. s.now) w.push_str-is ∙ ap verdict_line (sym w.if-balanced.false)
    ] in
    let traces = subst (λ (ts : List (AirTrace _)). AllZip (IsTraceOf fields.extension.base fields.extension.base_eq c.in_ok-rows.rows) (airs_of c.args.machine) ts) (sym c.as_slice.ensures.value) c.in_ok-traces.ensures in
    let read = subst (λ (columns : ℕ). IsInput fields.extension.base columns fields.bound c.args.input.now c.in_ok-rows.rows) c.columns.ensures.columns c.in_ok-rows.ensures.cases in
    let lines = after_nothing _ _ _ c.in_ok-push_witness.ensures c.new-text.ensures.bytes in
    let mismatch = c.in_ok-mismatch.ensures c.args.machine c.in_ok-rows.rows traces (flags_boolean fields.extension c.args.machine c.args.challenges.0 c.args.challenges.1 c.in_ok-rows.rows c.in_ok-witness.ensures.2) in
    report_is fields c.args.machine c.args.challenges.0 c.args.challenges.1 c.args.input.now c.in_ok-rows.rows c.in_ok-witness.witness c.as_slice-2.result.now c.verify_terminal_sum.result c.is_ok-balanced.result _ _ c.push_str.new.self c.in_ok-mismatch.mismatch read c.in_ok-witness.ensures c.as_slice-2.ensures.value c.verify_terminal_sum.ensures c.is_ok-balanced.ensures.value lines verdict c.in_ok-push_str.ensures.bytes mismatch

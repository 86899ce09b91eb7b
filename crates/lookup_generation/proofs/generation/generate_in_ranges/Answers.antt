use Rattle.std.proofs.Common.{◌≡◌, ◌<◌, ◌+◌, ◌++◌, ℕ, Some, length, get_or, slice_range, sym, ap, subst, ◌∙◌, arith}
use Rattle.std.proofs.lemmas.Bool.{eqb-false}
use Rattle.std.proofs.lemmas.Result.{err_from_is_err_and}
use Rattle.air.specs.Traces.{height_of, traces_of}
use Rattle.field.specs.laws.Extension.{of_laws}
use Rattle.lookup_generation.proofs.MadeRows.{all_ends, made_cells, made_faultless, made_terminal, next_end, plain_answer}
use Rattle.lookup_generation.proofs.RangeFaults.{refused_joined}
use Rattle.lookup_generation.proofs.RangeLaws.{joined, length-made}
use Rattle.lookup_generation.specs.Ranges.{shifted_matrix}
use Rattle.lookup_generation.specs.internal.Progress.{HasRows}
use Rattle.lookup_model.proofs.Lookups.PlainResults.{IsShaped-product, plain_matrix-some, plain_terminal_of-some}
use Rattle.lookup_model.proofs.Lookups.SentRows.{length-sent_rows, length-sent_rows-at}
use Rattle.lookup_model.specs.Denominators.{key_denominator}
use Rattle.lookup_model.specs.Trace.{sent_rows}
use Rattle.lookup_generation.proofs.generation.generate_in_ranges.Goals as goal

pub generate_rows-requires-clause-up_to : goal.generate_rows-requires-clause-up_to
generate_rows-requires-clause-up_to g c = (next_end c.loop-end.first c.args.ends.now (height_of (traces_of c.args.traces.now)) c.loop-end.end-index c.loop-end-test.true c.loop-end.invariant.0).2

pub returns-in_err-rows : goal.returns-in_err-rows
returns-in_err-rows g c =
    let E = of_laws g.met.EF.ExtensionField.lawful_fields in
    let traces = traces_of c.args.traces.now in
    let lookups = c.args.lookups.now in
    let next = next_end c.loop-end.first c.args.ends.now (height_of traces) c.loop-end.end-index c.loop-end-test.true c.loop-end.invariant.0 in
    let high = length-sent_rows E.base E.base_eq traces lookups in
    let p = err_from_is_err_and c.from_residual.result c.from_residual.ensures.1 in
    rw (p.1, p.2)
    (refused_joined E (key_denominator E c.args.challenges.now) (sent_rows E.base E.base_eq traces lookups) c.loop-end.first (get_or c.args.ends.now c.loop-end.end-index 0) next.0 (omega (arith, high, next.2))
    _ c.loop-end.invariant.1.faultless (c.in_err-rows.ensures.answers g.EF.Field.inverse g.met.EF.Field.inverse_is))

pub add-sum-requires : goal.add-sum-requires
add-sum-requires g c = g.met.EF.PrimeCharacteristicRing.may_add _ _

pub loop-end-preserved : goal.loop-end-preserved
loop-end-preserved g c =
    let laws = g.met.EF.ExtensionField.lawful_fields in
    let E = of_laws laws in
    let traces = traces_of c.args.traces.now in
    let lookups = c.args.lookups.now in
    let denominator = key_denominator E c.args.challenges.now in
    let rows = sent_rows E.base E.base_eq traces lookups in
    let first = c.loop-end.first in
    let end = get_or c.args.ends.now c.loop-end.end-index 0 in
    let next = next_end first c.args.ends.now (height_of traces) c.loop-end.end-index c.loop-end-test.true c.loop-end.invariant.0 in
    let high = length-sent_rows E.base E.base_eq traces lookups in
    let wide = λ (r : ℕ) (lt : r < length rows). length-sent_rows-at E.base E.base_eq traces lookups r (omega (arith, high, lt)) in
    let some : 0 < length lookups = omega (arith, eqb-false (length lookups) 0 (sym c.is_empty.ensures ∙ c.if-is_empty.false)) in
    let made = c.in_ok-rows.ensures.answers g.EF.Field.inverse g.met.EF.Field.inverse_is in
    let part = made.0 ∙ plain_matrix-some E denominator lookups (slice_range rows first end) some in
    let cells = c.loop-end.cells.items in (
      next.1,
      subst (λ all. HasRows E denominator rows end all c.add-sum.result)
          (sym (c.in_ok-append.ensures.items ∙ ap (λ t. cells ++ t) (c.into_values.ensures ∙ ap (λ m. m.values) c.shift.ensures ∙ ap (λ m. (shifted_matrix E.ring c.loop-end.sum m).values) part)))
          (joined laws denominator rows (length lookups) wide first end next.0 (omega (arith, high, next.2)) cells c.loop-end.sum c.add-sum.result c.loop-end.invariant.1 made.2
          (g.met.EF.PrimeCharacteristicRing.add_is _ _ _ c.add-sum.ensures ∙ ap (E.ring.add c.loop-end.sum) made.1)),
    )

pub new-requires : goal.new-requires
new-requires g c =
    let E = of_laws g.met.EF.ExtensionField.lawful_fields in
    let traces = traces_of c.args.traces.now in
    let lookups = c.args.lookups.now in
    let rows = sent_rows E.base E.base_eq traces lookups in
    let high = length-sent_rows E.base E.base_eq traces lookups in
    let all = all_ends c.loop-end.first c.args.ends.now (height_of traces) c.loop-end.end-index (omega (arith, c.loop-end-test.false)) c.loop-end.invariant.0 in
    let wide = λ (r : ℕ) (lt : r < length rows). length-sent_rows-at E.base E.base_eq traces lookups r (omega (arith, high, lt)) in
    IsShaped-product c.loop-end.cells.items c.loop-end.first (length lookups)
    (length-made E (key_denominator E c.args.challenges.now) rows (length lookups) wide c.loop-end.first c.loop-end.cells.items c.loop-end.sum (omega (arith, high, all)) c.loop-end.invariant.1)

pub returns : goal.returns
returns g c =
    let laws = g.met.EF.ExtensionField.lawful_fields in
    let E = of_laws laws in
    let traces = traces_of c.args.traces.now in
    let lookups = c.args.lookups.now in
    let denominator = key_denominator E c.args.challenges.now in
    let rows = sent_rows E.base E.base_eq traces lookups in
    let all = all_ends c.loop-end.first c.args.ends.now (height_of traces) c.loop-end.end-index (omega (arith, c.loop-end-test.false)) c.loop-end.invariant.0 in
    let high : length rows ≡ c.loop-end.first = length-sent_rows E.base E.base_eq traces lookups ∙ sym all in
    let some : 0 < length lookups = omega (arith, eqb-false (length lookups) 0 (sym c.is_empty.ensures ∙ c.if-is_empty.false)) in
    let has = c.loop-end.invariant.1 in
    plain_answer laws traces c.args.challenges.now lookups c.requires.fit.records _ _
    (c.new.ensures ∙ ap (λ v. record { values = v; width = length lookups + 1 }) (made_cells laws denominator rows c.loop-end.first _ _ high has) ∙ sym (plain_matrix-some E denominator lookups rows some))
    ((λ i. Some (record { 0 = made_terminal laws denominator rows c.loop-end.first _ _ high has i })) ∙ sym (plain_terminal_of-some E denominator lookups rows some))
    (made_faultless laws denominator rows c.loop-end.first _ _ high has)

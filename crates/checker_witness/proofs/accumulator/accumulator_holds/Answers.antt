use Rattle.std.proofs.Common.{◌≡◌, ◌+◌, map, slice_index_or, sym, ap, subst, ◌∙◌, arith}
use Rattle.std.proofs.lemmas.Bool.{eqb-true}
use Rattle.std.proofs.lemmas.List.{get_or_read}
use Rattle.std.specs.List.{AllByRecursion}
use Rattle.field.specs.Sums.{sum_in}
use Rattle.lookup_model.proofs.ConstraintLaws.{accumulator_constraints-some}
use Rattle.lookup_model.specs.Constraints.{accumulator_at, fractions_at, next_accumulator_at, terminal_at}
use Rattle.field.specs.laws.Extension.{of_laws}
use Rattle.checker_witness.proofs.AccumulatorLaws.{are_zero, comes_next}
use Rattle.checker_witness.specs.internal.Rows.{IsZeroAt, accumulator_window}
use Rattle.checker_witness.proofs.accumulator.accumulator_holds.Goals as goal

pub returns-then-starts_at_zero : goal.returns-then-starts_at_zero
returns-then-starts_at_zero g c =
    let E = of_laws g.met.EF.ExtensionField.lawful_fields in
    let met = g.met.EF.PrimeCharacteristicRing in
    let laws = g.EF.PrimeCharacteristicRing.lawful in
    let lookups = c.args.lookups.now in
    let r = c.args.row in
    let w = accumulator_window {F = g.row.F.Denot} c.args.aux.now c.args.terminal r in
    let row_is = c.row_slice-cells.ensures.row in
    let accumulator = accumulator_at E w in
    let next = next_accumulator_at E w in
    let terminal = terminal_at E w in
    let fractions = fractions_at E lookups w in
    let three = accumulator_constraints-some E lookups (terminal_at E) (λ t. 0) c.requires.some in
    let sum_is : c.accumulate.result ≡ E.ring.add accumulator fractions =
    c.accumulate.ensures ∙ ap (λ xs. E.ring.add (slice_index_or xs 0 E.ring.zero) (sum_in E.ring (map (λ lookup. slice_index_or xs (lookup.column + 1) E.ring.zero) lookups))) row_is in
    let start_is : c.index-cells-0.result ≡ accumulator =
    get_or_read c.row_slice-cells.result.now 0 c.index-cells-0.result (omega (arith, c.row_slice-cells.ensures.len, c.requires.cells)) c.index-cells-0.is E.ring.zero ∙ ap (λ xs. slice_index_or xs 0 E.ring.zero) row_is in
    let starts = c.starts_at_zero.ensures.0 c.if-starts_at_zero.true in (
      λ e.
          subst (AllByRecursion (IsZeroAt E w)) (sym three)
          (are_zero laws accumulator next terminal fractions w.base.is_first w.base.is_last (λ first. sym start_is ∙ starts (eqb-true r 0 first)) (sym sum_is ∙ (met.eq_is _ _).0 (sym c.eq.ensures ∙ e) ∙ c.expected_next.ensures)),
      λ holds.
          c.eq.ensures
          ∙ (met.eq_is _ _).1 (sum_is ∙ comes_next laws accumulator next terminal fractions w.base.is_first w.base.is_last (subst (AllByRecursion (IsZeroAt E w)) three holds) ∙ sym c.expected_next.ensures),
    )

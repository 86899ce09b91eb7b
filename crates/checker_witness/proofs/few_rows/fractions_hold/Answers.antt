use Rattle.std.proofs.Common.{◌≡◌, ◌+◌, ◌*◌, ◌∷◌, [], take, subst, sym, arith}
use Rattle.std.proofs.lemmas.Bool.{iff_false, true≢false}
use Rattle.std.proofs.lemmas.List.{get_or_read}
use Rattle.std.specs.List.{AllByRecursion}
use Rattle.list_laws.proofs.Each.{all_both, all_there}
use Rattle.list_laws.proofs.Items.{item_there, take_item}
use Rattle.field.specs.laws.Extension.{of_laws}
use Rattle.lookup_model.proofs.Lookups.SentRows.{column_is}
use Rattle.checker_witness.specs.internal.Rows.{FractionHoldsAt}
use Rattle.checker_witness.specs.internal.TraceRows.{trace_window, window_over}
use Rattle.checker_witness.proofs.FewRowLaws.{fraction_of, fraction_on}
use Rattle.checker_witness.proofs.few_rows.fractions_hold.Goals as goal

pub returns-then-not-fraction_holds_on : goal.returns-then-not-fraction_holds_on
returns-then-not-fraction_holds_on g c =
    let E = of_laws g.met.EF.ExtensionField.lawful_fields in
    let lookups = c.args.lookups.now in
    let challenges = c.args.challenges.now in
    let cells = c.args.cells.now in
    let i = c.loop-lookup.lookup-index in
    let lookup = c.lookup-item.result in
    let w = window_over (trace_window c.args.row.now) cells challenges in
    let at : lookup.column ≡ i = column_is lookups i lookup c.requires.fit.records c.loop-lookup-test.true c.lookup-item.is in
    let alpha_is = get_or_read challenges (2 * lookup.column) c.index-challenges-at.result (omega (arith, at, c.loop-lookup-test.true, c.requires.challenges)) c.index-challenges-at.is E.ring.zero in
    let beta_is = get_or_read challenges (2 * lookup.column + 1) c.index-challenges-at-in-loop-lookup.result (omega (arith, at, c.loop-lookup-test.true, c.requires.challenges)) c.index-challenges-at-in-loop-lookup.is E.ring.zero in
    let fraction_is = get_or_read cells (lookup.column + 1) c.index-cells-at.result (omega (arith, at, c.loop-lookup-test.true, c.requires.cells)) c.index-cells-at.is E.ring.zero in (
      λ true_is_false. absurd (true≢false (sym true_is_false)),
      λ all. absurd (iff_false c.fraction_holds_on.ensures c.if-not-fraction_holds_on.true (fraction_of E w lookup c.index-challenges-at.result c.index-challenges-at-in-loop-lookup.result c.index-cells-at.result alpha_is beta_is fraction_is
          (all_there (FractionHoldsAt E w) lookups i lookup all (item_there lookups i lookup c.loop-lookup-test.true c.lookup-item.is)))),
    )

pub loop-lookup-preserved : goal.loop-lookup-preserved
loop-lookup-preserved g c =
    let E = of_laws g.met.EF.ExtensionField.lawful_fields in
    let lookups = c.args.lookups.now in
    let challenges = c.args.challenges.now in
    let cells = c.args.cells.now in
    let i = c.loop-lookup.lookup-index in
    let lookup = c.lookup-item.result in
    let w = window_over (trace_window c.args.row.now) cells challenges in
    let at : lookup.column ≡ i = column_is lookups i lookup c.requires.fit.records c.loop-lookup-test.true c.lookup-item.is in
    let alpha_is = get_or_read challenges (2 * lookup.column) c.index-challenges-at.result (omega (arith, at, c.loop-lookup-test.true, c.requires.challenges)) c.index-challenges-at.is E.ring.zero in
    let beta_is = get_or_read challenges (2 * lookup.column + 1) c.index-challenges-at-in-loop-lookup.result (omega (arith, at, c.loop-lookup-test.true, c.requires.challenges)) c.index-challenges-at-in-loop-lookup.is E.ring.zero in
    let fraction_is = get_or_read cells (lookup.column + 1) c.index-cells-at.result (omega (arith, at, c.loop-lookup-test.true, c.requires.cells)) c.index-cells-at.is E.ring.zero in
    let here = fraction_on E w lookup c.index-challenges-at.result c.index-challenges-at-in-loop-lookup.result c.index-cells-at.result alpha_is beta_is fraction_is (c.fraction_holds_on.ensures.0 c.if-not-fraction_holds_on.false) in
    subst (AllByRecursion (FractionHoldsAt E w)) (sym (take_item lookups i lookup c.loop-lookup-test.true c.lookup-item.is))
    (all_both (FractionHoldsAt E w) (take i lookups) (lookup ∷ []) c.loop-lookup.invariant (here, tt))

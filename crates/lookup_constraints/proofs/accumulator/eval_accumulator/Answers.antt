use Rattle.std.proofs.Common.{◌≡◌, [], length, sym, ◌∙◌, refl, inl, arith}
use Rattle.std.proofs.lemmas.Bool.{eqb-true, eqb-false}
use Rattle.std.proofs.lemmas.List.{nil_from_length}
use Rattle.std.proofs.lemmas.Result.{err_from_is_err_and}
use Rattle.field.specs.laws.Extension.{of_laws}
use Rattle.lookup_constraints.specs.Asserted.{Asserts}
use Rattle.lookup_constraints.proofs.Accumulators.{fails_first, evaluates_all, row_from_cells, fails_transition}
use Rattle.lookup_constraints.proofs.AssertedLaws.{fails_here}
use Rattle.lookup_constraints.proofs.accumulator.eval_accumulator.Goals as goal
use Rattle.lookup_model.specs.Constraints.{first_constraint}
use Rattle.lookup_model.proofs.ConstraintLaws.{accumulator_constraints-some}

pub returns-then-is_empty : goal.returns-then-is_empty
unfolding Asserts
returns-then-is_empty g c =
    let none : c.args.lookups.now ≡ [] = nil_from_length c.args.lookups.now (eqb-true (length c.args.lookups.now) 0 (sym c.is_empty.ensures ∙ c.if-is_empty.true)) in
    rw none refl

pub accumulator_sides-requires-clause-row : goal.accumulator_sides-requires-clause-row
accumulator_sides-requires-clause-row g c =
    let filled = eqb-false (length c.args.lookups.now) 0 (sym c.is_empty.ensures ∙ c.if-is_empty.false) in
    row_from_cells c.args.lookups.now (g.AB.AirBuilder.layout c.args.builder.now).permutation_width (omega (arith, filled)) c.requires.cells

pub returns-in_err-sides : goal.returns-in_err-sides
returns-in_err-sides g c =
    let E = of_laws g.met.AB.EF.ExtensionField.lawful_fields in
    let filled = eqb-false (length c.args.lookups.now) 0 (sym c.is_empty.ensures ∙ c.if-is_empty.false) in
    let all = accumulator_constraints-some E c.args.lookups.now (λ w. g.AB.ExprEF.Expression.value c.args.terminal (g.AB.ExtensionBuilder.seen_ext w)) (g.AB.ExprEF.Expression.degree c.args.terminal) (omega (arith, filled)) in
    let p = err_from_is_err_and c.from_residual.result c.from_residual.ensures.1 in
    rw (all, p.1, p.2) (fails_here _ _ _ _ (first_constraint E) _ c.args.builder.now c.args.builder.now _ (inl (c.in_err-sides.ensures.refused, refl)))

pub returns-in_err-assert_first : goal.returns-in_err-assert_first
returns-in_err-assert_first g c =
    let p = err_from_is_err_and c.from_residual-in_err-assert_first.result c.from_residual-in_err-assert_first.ensures.1 in
    rw (p.1, p.2) (fails_first _ (of_laws g.met.AB.EF.ExtensionField.lawful_fields) g.met.AB.EF.ExtensionDomain.embeds c.args.builder.now c.args.lookups.now (sym c.is_empty.ensures ∙ c.if-is_empty.false) _ c.in_ok-sides.sides c.in_ok-sides.ensures.sides c.assert_first.new.builder _ c.in_err-assert_first.ensures)

pub returns-in_err-assert_transition : goal.returns-in_err-assert_transition
returns-in_err-assert_transition g c =
    let p = err_from_is_err_and c.from_residual-in_err-assert_transition.result c.from_residual-in_err-assert_transition.ensures.1 in
    rw (p.1, p.2) (fails_transition _ (of_laws g.met.AB.EF.ExtensionField.lawful_fields) g.met.AB.EF.ExtensionDomain.embeds c.args.builder.now c.args.lookups.now (sym c.is_empty.ensures ∙ c.if-is_empty.false) _ c.in_ok-sides.sides c.in_ok-sides.ensures.sides g.met.AB.ExtensionBuilder.keeps_ext c.assert_first.new.builder tt c.in_ok-assert_first.ensures c.assert_transition.new.builder _ c.in_err-assert_transition.ensures)

pub returns : goal.returns
returns g c =
    evaluates_all _ (of_laws g.met.AB.EF.ExtensionField.lawful_fields) g.met.AB.EF.ExtensionDomain.embeds c.args.builder.now c.args.lookups.now (sym c.is_empty.ensures ∙ c.if-is_empty.false) _ c.in_ok-sides.sides c.in_ok-sides.ensures.sides g.met.AB.ExtensionBuilder.keeps_ext c.assert_first.new.builder tt c.in_ok-assert_first.ensures c.assert_transition.new.builder tt c.in_ok-assert_transition.ensures c.assert_last.new.builder c.assert_last.result c.assert_last.ensures

use Rattle.std.proofs.Common.{◌≡◌, ◌<◌, [], length, ap, sym, ◌∙◌, refl, arith, get_or}
use Rattle.std.proofs.lemmas.Bool.{eqb-true, eqb-false}
use Rattle.std.proofs.lemmas.List.{nil_from_length}
use Rattle.std.proofs.lemmas.Option.{slice_get-get_or}
use Rattle.std.proofs.lemmas.Result.{err_from_is_err_and}
use Rattle.lookup_constraints.specs.Asserted.{Asserts}
use Rattle.lookup_constraints.proofs.AssertedLaws.{fails_early}
use Rattle.lookup.proofs.Evaluations.{evaluates_after, layout_kept}
use Rattle.lookup.proofs.protocol.LookupProtocol.eval_all.Goals as goal

pub returns-then-is_empty : goal.returns-then-is_empty
unfolding Asserts
returns-then-is_empty g c =
    let lookups = c.args.lookups.now in
    let none : lookups ≡ [] = nil_from_length lookups (eqb-true (length lookups) 0 (sym c.is_empty.ensures ∙ c.if-is_empty.true)) in
    rw none refl

pub returns-in_err-eval_fractions : goal.returns-in_err-eval_fractions
returns-in_err-eval_fractions g c =
    let p = err_from_is_err_and c.from_residual.result c.from_residual.ensures.1 in
    rw (p.1, p.2) (fails_early _ _ _ _ c.args.builder.now _ _ _ c.eval_fractions.new.builder c.in_err-eval_fractions.ensures)

pub eval_terminal-requires-clause-cells : goal.eval_terminal-requires-clause-cells
eval_terminal-requires-clause-cells g c =
    let lookups = c.args.lookups.now in
    let filled = eqb-false (length lookups) 0 (sym c.is_empty.ensures ∙ c.if-is_empty.false) in
    let some : 0 < length lookups = omega (arith, filled) in
    let kept = layout_kept _ _ g.AB.AirBuilder.layout g.met.AB.ExtensionBuilder.keeps_ext_layout c.args.builder.now _ c.eval_fractions.new.builder c.in_ok-eval_fractions.ensures in
    λ k d lt. omega (arith, ap (λ layout. layout.permutation_width) kept, (c.requires.fit.records k (get_or lookups k d) lt (slice_get-get_or lookups k d lt)).0, c.requires.room.cells some, lt)

pub eval_terminal-requires-clause-terminal : goal.eval_terminal-requires-clause-terminal
eval_terminal-requires-clause-terminal g c =
    let filled = eqb-false (length c.args.lookups.now) 0 (sym c.is_empty.ensures ∙ c.if-is_empty.false) in
    let some : 0 < length c.args.lookups.now = omega (arith, filled) in
    let kept = layout_kept _ _ g.AB.AirBuilder.layout g.met.AB.ExtensionBuilder.keeps_ext_layout c.args.builder.now _ c.eval_fractions.new.builder c.in_ok-eval_fractions.ensures in
    omega (arith, ap (λ layout. layout.num_permutation_values) kept, c.requires.room.terminal some)

pub returns : goal.returns
returns g c =
    evaluates_after _ _ g.AB.ExtensionBuilder.stands_for_ext _ _ _ g.met.AB.ExtensionBuilder.keeps_ext c.args.builder.now _ _ c.eval_fractions.new.builder c.eval_terminal.new.builder c.eval_terminal.result c.in_ok-eval_fractions.ensures c.eval_terminal.ensures

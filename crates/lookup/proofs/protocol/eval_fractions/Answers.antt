use Rattle.std.proofs.Common.{◌≡◌, ◌+◌, ◌++◌, ◌∷◌, [], Ok, Err, length, map, take, drop, ap, sym, ◌∙◌, refl, subst, arith}
use Rattle.std.proofs.lemmas.List.{map-append, take_all}
use Rattle.std.proofs.lemmas.Option.{slice_get_read}
use Rattle.std.proofs.lemmas.Result.{err_from_is_err_and}
use Rattle.list_laws.proofs.Each.{All-at}
use Rattle.list_laws.proofs.Items.{take_item, split_at}
use Rattle.air_expressions.specs.declared.layout.AirLayout.{AirLayout}
use Rattle.lookup_constraints.specs.Asserted.{Asserts}
use Rattle.lookup_model.specs.Constraints.{fraction_constraint}
use Rattle.field.specs.laws.Extension.{of_laws}
use Rattle.lookup_model.specs.Records.{IsWithin}
use Rattle.lookup_constraints.proofs.AssertedLaws.{fails_early}
use Rattle.lookup.proofs.Evaluations.{evaluates_after, layout_kept}
use Rattle.lookup_model.proofs.Lookups.SentRows.{column_is}
use Rattle.lookup.proofs.protocol.eval_fractions.Goals as goal

pub loop-lookup-init : goal.loop-lookup-init
unfolding Asserts
loop-lookup-init g c = refl

pub eval_fraction-requires-clause-lengths : goal.eval_fraction-requires-clause-lengths
eval_fraction-requires-clause-lengths g c =
    let lookups = c.args.lookups.now in
    (c.requires.fit.records c.loop-lookup.lookup-index c.lookup-item.result c.loop-lookup-test.true (slice_get_read lookups (length lookups) c.loop-lookup.lookup-index c.lookup-item.result (λ _. length lookups) c.loop-lookup-test.true c.lookup-item.is)).1

pub eval_fraction-requires-clause-fits : goal.eval_fraction-requires-clause-fits
eval_fraction-requires-clause-fits g c =
    let kept = layout_kept _ _ g.AB.AirBuilder.layout g.met.AB.ExtensionBuilder.keeps_ext_layout c.args.builder.now _ c.loop-lookup.builder c.loop-lookup.invariant in
    subst (λ (layout : AirLayout). IsWithin layout c.lookup-item.result) (sym kept) (All-at (IsWithin (g.AB.AirBuilder.layout c.args.builder.now)) c.args.lookups.now c.loop-lookup.lookup-index c.lookup-item.result c.requires.fit.within c.loop-lookup-test.true c.lookup-item.is)

pub eval_fraction-requires-clause-challenges : goal.eval_fraction-requires-clause-challenges
eval_fraction-requires-clause-challenges g c =
    let kept = layout_kept _ _ g.AB.AirBuilder.layout g.met.AB.ExtensionBuilder.keeps_ext_layout c.args.builder.now _ c.loop-lookup.builder c.loop-lookup.invariant in
    omega (arith, ap (λ layout. layout.num_permutation_challenges) kept, column_is c.args.lookups.now c.loop-lookup.lookup-index c.lookup-item.result c.requires.fit.records c.loop-lookup-test.true c.lookup-item.is, c.requires.challenges, c.loop-lookup-test.true)

pub eval_fraction-requires-clause-cell : goal.eval_fraction-requires-clause-cell
eval_fraction-requires-clause-cell g c =
    let kept = layout_kept _ _ g.AB.AirBuilder.layout g.met.AB.ExtensionBuilder.keeps_ext_layout c.args.builder.now _ c.loop-lookup.builder c.loop-lookup.invariant in
    omega (arith, ap (λ layout. layout.permutation_width) kept, column_is c.args.lookups.now c.loop-lookup.lookup-index c.lookup-item.result c.requires.fit.records c.loop-lookup-test.true c.lookup-item.is, c.requires.cells, c.loop-lookup-test.true)

pub returns-in_err-eval_fraction : goal.returns-in_err-eval_fraction
returns-in_err-eval_fraction g c =
    let lookups = c.args.lookups.now in
    let i = c.loop-lookup.lookup-index in
    let lookup = c.lookup-item.result in
    let fc = fraction_constraint (of_laws g.met.AB.EF.ExtensionField.lawful_fields) in
    let split : map fc lookups ≡ (map fc (take i lookups) ++ fc lookup ∷ []) ++ map fc (drop (i + 1) lookups) =
    ap (map fc) (split_at lookups i lookup c.loop-lookup-test.true c.lookup-item.is)
    ∙ map-append fc (take i lookups ++ lookup ∷ []) (drop (i + 1) lookups)
    ∙ ap (λ ks. ks ++ map fc (drop (i + 1) lookups)) (map-append fc (take i lookups) (lookup ∷ [])) in
    let p = err_from_is_err_and c.from_residual.result c.from_residual.ensures.1 in
    rw (split, p.1, p.2) (fails_early _ _ _ _ c.args.builder.now _ _ _ c.eval_fraction.new.builder
    (evaluates_after _ _ g.AB.ExtensionBuilder.stands_for_ext _ _ _ g.met.AB.ExtensionBuilder.keeps_ext c.args.builder.now _ (fc lookup ∷ []) c.loop-lookup.builder c.eval_fraction.new.builder (Err _) c.loop-lookup.invariant c.in_err-eval_fraction.ensures))

pub loop-lookup-preserved : goal.loop-lookup-preserved
loop-lookup-preserved g c =
    let lookups = c.args.lookups.now in
    let i = c.loop-lookup.lookup-index in
    let lookup = c.lookup-item.result in
    let fc = fraction_constraint (of_laws g.met.AB.EF.ExtensionField.lawful_fields) in
    rw (take_item lookups i lookup c.loop-lookup-test.true c.lookup-item.is, map-append fc (take i lookups) (lookup ∷ []))
    (evaluates_after _ _ g.AB.ExtensionBuilder.stands_for_ext _ g.AB.ExtensionBuilder.refuses_ext (λ d e. ⊥) g.met.AB.ExtensionBuilder.keeps_ext c.args.builder.now _ (fc lookup ∷ []) c.loop-lookup.builder c.eval_fraction.new.builder (Ok tt) c.loop-lookup.invariant c.in_ok-eval_fraction.ensures)

pub returns : goal.returns
returns g c = rw (take_all c.loop-lookup.lookup-index c.args.lookups.now (omega arith)) at c.loop-lookup.invariant

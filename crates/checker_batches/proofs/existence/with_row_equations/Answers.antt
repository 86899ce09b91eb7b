use Rattle.std.proofs.Common.{List, ◌+◌, ◌++◌, ◌∷◌, [], drop, subst, sym, take, arith}
use Rattle.std.proofs.lemmas.List.{length-map, take-append-drop, take_all}
use Rattle.list_laws.proofs.Images.{mapped_more}
use Rattle.list_laws.proofs.Each.{All-at}
use Rattle.field.specs.laws.Extension.{of_laws}
use Rattle.lookup_model.specs.Records.{IsWithin}
use Rattle.lookup_model.proofs.Lookups.SentRows.{column_is, equal_lengths}
use Rattle.lookup_model.specs.internal.Equations.{Equation, equation_at, row_equations}
use Rattle.lookup_messages.specs.TraceBuilder.{builder_layout, ext_builder_window}
use Rattle.checker_batches.specs.internal.Sums.{AreSums}
use Rattle.checker_batches.proofs.SumWalk.{sums_further, sums_kept, sums_stay}
use Rattle.checker_batches.proofs.existence.with_row_equations.Goals as goal

pub loop-lookup-init : goal.loop-lookup-init
loop-lookup-init g c = λ equations are. sums_kept g.EF.PrimeCharacteristicRing.ring equations c.args.sums are

pub with_lookup_equation-requires-clause-lengths : goal.with_lookup_equation-requires-clause-lengths
with_lookup_equation-requires-clause-lengths g c =
    equal_lengths c.args.lookups.now c.loop-lookup.lookup-index c.lookup-item.result c.requires.fit.records c.loop-lookup-test.true c.lookup-item.is

pub with_lookup_equation-requires-clause-within : goal.with_lookup_equation-requires-clause-within
with_lookup_equation-requires-clause-within g c =
    All-at (IsWithin (builder_layout c.args.builder.now)) c.args.lookups.now c.loop-lookup.lookup-index c.lookup-item.result c.requires.fit.within c.loop-lookup-test.true c.lookup-item.is

pub with_lookup_equation-requires-clause-challenges : goal.with_lookup_equation-requires-clause-challenges
with_lookup_equation-requires-clause-challenges g c =
    omega (arith, column_is c.args.lookups.now c.loop-lookup.lookup-index c.lookup-item.result c.requires.fit.records c.loop-lookup-test.true c.lookup-item.is, c.requires.challenges, c.loop-lookup-test.true)

pub returns-then-is_nothing : goal.returns-then-is_nothing
returns-then-is_nothing g c = λ equations are.
    let es = row_equations (of_laws g.met.EF.ExtensionField.lawful_fields) (ext_builder_window c.args.builder.now) c.args.lookups.now in
    let i = c.loop-lookup.lookup-index in
    sums_stay g.EF.PrimeCharacteristicRing.lawful equations (take i es) (drop i es) es c.loop-lookup.so_far (c.is_nothing.ensures.0 c.if-is_nothing.true) (sym (take-append-drop i es)) (c.loop-lookup.invariant equations are)

pub loop-lookup-preserved : goal.loop-lookup-preserved
loop-lookup-preserved g c = λ equations are.
    let E = of_laws g.met.EF.ExtensionField.lawful_fields in
    let w = ext_builder_window c.args.builder.now in
    let lookups = c.args.lookups.now in
    let lookup = c.lookup-item.result in
    let i = c.loop-lookup.lookup-index in
    sums_further E.ring equations (take i (row_equations E w lookups)) (equation_at E w lookup ∷ []) (take (i + 1) (row_equations E w lookups)) c.loop-lookup.so_far _
    (mapped_more (equation_at E w) lookups i lookup c.loop-lookup-test.true c.lookup-item.is) c.in_ok-so_far.ensures (c.loop-lookup.invariant equations are)

pub returns : goal.returns
returns g c = λ equations are.
    let E = of_laws g.met.EF.ExtensionField.lawful_fields in
    let w = ext_builder_window c.args.builder.now in
    subst (λ (further : List (Equation _)). AreSums E.ring (equations ++ further) c.loop-lookup.so_far)
    (take_all c.loop-lookup.lookup-index (row_equations E w c.args.lookups.now) (omega (arith, length-map c.args.lookups.now (equation_at E w), c.loop-lookup-test.false))) (c.loop-lookup.invariant equations are)

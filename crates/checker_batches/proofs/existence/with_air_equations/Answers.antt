use Rattle.std.proofs.Common.{◌≡◌, ℕ, ◌+◌, ◌-◌, ◌++◌, [], length, ap, subst, sym, ◌∙◌, arith}
use Rattle.std.specs.List.{flat_map, range_with_len}
use Rattle.list_laws.proofs.Parts.{flat_more}
use Rattle.air.specs.Traces.{height_of, layout_of}
use Rattle.air_expressions.specs.Window.{ExtWindow}
use Rattle.lookup_model.specs.Challenges.{table_of}
use Rattle.field.specs.laws.Extension.{of_laws}
use Rattle.lookup_model.specs.Records.{LookupsFit}
use Rattle.lookup_model.specs.internal.Equations.{challenged_window, row_equations}
use Rattle.lookup_model.specs.Batches.Instances.{instance_of}
use Rattle.lookup_messages.proofs.Layouts.{LookupsFit-with_challenges}
use Rattle.lookup_messages.specs.TraceBuilder.{ext_builder_window}
use Rattle.checker_batches.specs.internal.Sums.{AreSums}
use Rattle.checker_batches.proofs.SumWalk.{flat_parts, sums_further, sums_kept, sums_stay}
use Rattle.checker_batches.proofs.existence.with_air_equations.Goals as goal

pub loop-row-init : goal.loop-row-init
loop-row-init g c = λ equations are. sums_kept g.EF.PrimeCharacteristicRing.ring equations c.args.sums are

pub with_row_equations-requires-clause-fit : goal.with_row_equations-requires-clause-fit
with_row_equations-requires-clause-fit g c =
    let i = c.args.instance.now in
    subst (λ layout. LookupsFit layout i.lookups.now) (sym c.row_builder-builder.ensures.layout)
    (LookupsFit-with_challenges (layout_of (instance_of i).traces) _ i.lookups.now c.requires.fit.fit)

pub with_row_equations-requires-clause-challenges : goal.with_row_equations-requires-clause-challenges
with_row_equations-requires-clause-challenges g c =
    omega (arith, ap length c.row_builder-builder.ensures.challenges, ap length c.as_slice.ensures.value, c.in_ok-columns.ensures.len, c.requires.fit.ids)

pub returns-then-is_nothing : goal.returns-then-is_nothing
returns-then-is_nothing g c = λ equations are.
    let E = of_laws g.met.EF.ExtensionField.lawful_fields in
    let i = instance_of c.args.instance.now in
    let f = λ (r : ℕ). row_equations E (challenged_window E (table_of c.args.challenges.now) i r) i.lookups in
    let r = c.loop-row.row in
    let left = height_of i.traces - r in
    let whole : height_of i.traces ≡ r + left = omega (arith, c.loop-row-test.true, c.height-num_rows.ensures.height) in
    sums_stay g.EF.PrimeCharacteristicRing.lawful equations (flat_map f (range_with_len 0 r)) (flat_map f (range_with_len (0 + r) left)) (flat_map f (range_with_len 0 (height_of i.traces))) c.loop-row.so_far (c.is_nothing.ensures.0 c.if-is_nothing.true)
    (ap (λ n. flat_map f (range_with_len 0 n)) whole ∙ flat_parts f 0 r left) (c.loop-row.invariant equations are)

pub loop-row-preserved : goal.loop-row-preserved
loop-row-preserved g c = λ equations are.
    let E = of_laws g.met.EF.ExtensionField.lawful_fields in
    let i = instance_of c.args.instance.now in
    let table = table_of c.args.challenges.now in
    let f = λ (r : ℕ). row_equations E (challenged_window E table i r) i.lookups in
    let r = c.loop-row.row in
    let built = c.row_builder-builder.ensures in
    let challenges = built.challenges ∙ c.as_slice.ensures.value ∙ c.in_ok-columns.ensures.challenges in
    let window : ext_builder_window c.row_builder-builder.result ≡ challenged_window E table i r =
    λ j. record { base = built.window j; permutation = []; permutation_next = []; challenges = challenges j; permutation_values = [] } in
    sums_further E.ring equations (flat_map f (range_with_len 0 r)) (f r) (flat_map f (range_with_len 0 (r + 1))) c.loop-row.so_far _
    (flat_more f r)
    (λ es before. subst (λ (w : ExtWindow _ _). AreSums E.ring (es ++ row_equations E w i.lookups) c.in_ok-so_far.so_far) window (c.in_ok-so_far.ensures es before))
    (c.loop-row.invariant equations are)

pub returns : goal.returns
returns g c = λ equations are.
    let E = of_laws g.met.EF.ExtensionField.lawful_fields in
    let i = instance_of c.args.instance.now in
    subst (λ (n : ℕ). AreSums E.ring (equations ++ flat_map (λ (r : ℕ). row_equations E (challenged_window E (table_of c.args.challenges.now) i r) i.lookups) (range_with_len 0 n)) c.loop-row.so_far)
    (omega (arith, c.loop-row-test.false, c.loop-row.auto.row-end, c.height-num_rows.ensures.height)) (c.loop-row.invariant equations are)

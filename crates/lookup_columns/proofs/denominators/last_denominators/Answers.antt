use Rattle.std.proofs.Common.{◌≡◌, ◌<◌, ◌-◌, ◌+◌, ◌∷◌, ◌++◌, List, All, arith, ap, sym, subst, ◌∙◌, length, map}
use Rattle.std.proofs.lemmas.List.{drop_all}
use Rattle.field.proofs.DotProduct.{drop_read}
use Rattle.field.specs.Ring.{sub_in}
use Rattle.lookup_columns.specs.Columns.{tuple_denominators}
use Rattle.air.specs.Traces.{layout_of, traces_of, window_of}
use Rattle.lookup_columns.proofs.LessenedLaws.{column_of_last, column_of_none}
use Rattle.std.proofs.lemmas.Slice.Zip.{AllZip-long}
use Rattle.list_laws.proofs.Each.{All-at}
use Rattle.lookup_columns.proofs.ZipLaws.{beside}
use Rattle.lookup_columns.specs.Steps.{AreStepsOf, StepFits}
use Rattle.air_expressions.specs.Tree.{tree_of}
use Rattle.lookup_columns.proofs.denominators.last_denominators.Goals as goal

pub column_of-requires-clause-fits : goal.column_of-requires-clause-fits
column_of-requires-clause-fits g c =
    let fits = StepFits (layout_of (traces_of c.args.inputs.now.traces.now)) in
    subst (λ (l : List _). All fits l) (sym c.deref.ensures.value)
    (All-at (λ v. All fits v.items) c.args.tuple.now (length c.args.tuple.now - 1) c.index-tuple-many.result c.requires.fits (omega (arith, c.if-many-eq0.false)) c.index-tuple-many.is)

pub returns-in_ok-push_alike : goal.returns-in_ok-push_alike
returns-in_ok-push_alike g c = λ es are beta.
    let R = g.F.PrimeCharacteristicRing.ring in
    let embed = g.EF.ExtensionDomain.embed in
    let ws = window_of (traces_of c.args.inputs.now.traces.now) in
    let alpha = c.args.alpha in
    let rows = c.args.rows.now in
    let none : length c.args.tuple.now ≡ 0 = omega (arith, c.if-many-eq0.true) in
    let nothing = drop_all (length c.args.tuple.now - 1) es (omega (arith, none, AllZip-long AreStepsOf c.args.tuple.now es are)) in
    column_of_none R g.EF.PrimeCharacteristicRing.lawful embed alpha beta ws rows
    (c.in_ok-push_alike.ensures ∙ ap (λ v. v ++ map (λ _. alpha) rows) c.in_ok-denominators.ensures.empty)
    ∙ ap (tuple_denominators R g.EF.PrimeCharacteristicRing.ring embed ws alpha beta rows) (sym nothing)

pub returns-in_ok-put : goal.returns-in_ok-put
returns-in_ok-put g c = λ es are beta.
    let R = g.F.PrimeCharacteristicRing.ring in
    let S = g.EF.PrimeCharacteristicRing.ring in
    let embed = g.EF.ExtensionDomain.embed in
    let ws = window_of (traces_of c.args.inputs.now.traces.now) in
    let alpha = c.args.alpha in
    let rows = c.args.rows.now in
    let steps = c.args.tuple.now in
    let last = length steps - 1 in
    let below : last < length steps = omega (arith, c.if-many-eq0.false) in
    let other = beside AreStepsOf steps es last c.index-tuple-many.result are below c.index-tuple-many.is in
    let e = other.item in
    let alone = drop_read es last e other.within other.there ∙ ap (λ l. e ∷ l) (drop_all (last + 1) es (omega (arith, below, AllZip-long AreStepsOf steps es are))) in
    column_of_last R g.EF.PrimeCharacteristicRing.lawful embed alpha beta ws rows e
    (c.deref-else-many-eq0.ensures.value ∙ c.in_ok-column.ensures (tree_of e) (c.deref.ensures.value ∙ other.holds))
    (c.in_ok-push_less.ensures ∙ ap (λ v. v ++ map (λ x. sub_in S alpha (embed x)) c.deref-else-many-eq0.result.now) c.in_ok-denominators.ensures.empty)
    ∙ ap (tuple_denominators R S embed ws alpha beta rows) (sym alone)

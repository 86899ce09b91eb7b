use Rattle.std.proofs.Common.{◌≡◌, ◌<◌, ap, ◌+◌, ◌*◌, All, Some, List, get_or, length, map, sym, subst, ◌∙◌, arith}
use Rattle.std.proofs.lemmas.List.{get_or_default}
use Rattle.std.specs.List.{AllZip}
use Rattle.field.specs.Polynomial.{combined}
use Rattle.field.specs.Ring.{sub_in}
use Rattle.air_expressions.specs.Tree.{tree_of}
use Rattle.std.proofs.lemmas.Slice.Zip.{AllZip-long}
use Rattle.lookup_columns.proofs.ZipLaws.{beside}
use Rattle.lookup_columns.specs.Columns.{tuple_denominator_at}
use Rattle.lookup_columns.specs.Steps.{AreStepsOf, StepFits, StepsFit}
use Rattle.lookup_columns.specs.ChunkColumns.{key_denominator_over}
use Rattle.lookup_columns.specs.LookupSteps.{AreTupleSteps}
use Rattle.lookup_columns.proofs.ChunkColumnLaws.{mapped_there}
use Rattle.lookup_columns.proofs.StepLaws.{all_steps_fit}
use Rattle.std.proofs.lemmas.Option.{get_or_from_slice_get}
use Rattle.list_laws.proofs.Zips.{zipped_at}
use Rattle.list_laws.proofs.Each.{All-at}
use Rattle.lookup_model.specs.Message.{Message}
use Rattle.lookup_model.specs.Records.{AllFit, IsWithin}
use Rattle.lookup_model.specs.Sent.{branch_at, branches_at, value, values}
use Rattle.air.specs.Traces.{layout_of, traces_of, window_of}
use Rattle.lookup_columns.proofs.branches.branch_columns.Goals as goal

pub index-requires : goal.index-requires
index-requires g c =
    omega (arith, AllZip-long AreStepsOf c.args.steps.now.multiplicities.items c.args.lookup.now.multiplicities.items c.requires.inputs.steps.multiplicities, c.args.steps.now.multiplicities.ok.0, c.requires.inputs.lengths.multiplicities, c.requires.branch_exists)

pub index-requires-2 : goal.index-requires-2
index-requires-2 g c =
    omega (arith, AllZip-long AreTupleSteps c.args.steps.now.elements.items c.args.lookup.now.elements.items c.requires.inputs.steps.elements, c.args.steps.now.elements.ok.0, c.requires.branch_exists)

pub column_of-requires-clause-fits : goal.column_of-requires-clause-fits
unfolding IsWithin
column_of-requires-clause-fits g c =
    let layout = layout_of (traces_of c.args.inputs.now.traces.now) in
    let steps = c.args.steps.now.multiplicities.items in
    let es = c.args.lookup.now.multiplicities.items in
    let lt : c.args.branch < length steps = omega (arith, AllZip-long AreStepsOf steps es c.requires.inputs.steps.multiplicities, c.requires.inputs.lengths.multiplicities, c.requires.branch_exists) in
    subst (All (StepFits layout)) (sym c.deref.ensures.value)
    (All-at (StepsFit layout) steps c.args.branch c.index.result.now (all_steps_fit layout steps es c.requires.inputs.steps.multiplicities c.requires.inputs.within.1) lt c.index.ensures)

pub denominators_of-requires-clause-fits : goal.denominators_of-requires-clause-fits
unfolding IsWithin
denominators_of-requires-clause-fits g c =
    let layout = layout_of (traces_of c.args.inputs.now.traces.now) in
    let steps = c.args.steps.now.elements.items in
    let tuples = c.args.lookup.now.elements.items in
    let lt : c.args.branch < length steps = omega (arith, AllZip-long AreTupleSteps steps tuples c.requires.inputs.steps.elements, c.requires.branch_exists) in
    let tuple_beside = beside AreTupleSteps steps tuples c.args.branch c.index-2.result.now c.requires.inputs.steps.elements lt c.index-2.ensures in
    let tuple = tuple_beside.item in
    subst (λ (l : List _). All (StepsFit layout) l) (sym c.deref-2.ensures.value)
    (all_steps_fit layout c.index-2.result.now.items tuple.items tuple_beside.holds (All-at (λ t. AllFit layout t.items) tuples c.args.branch tuple c.requires.inputs.within.0 c.requires.branch_exists tuple_beside.there))

pub returns : goal.returns
returns g c = λ index r m there m_there.
    let R = g.F.PrimeCharacteristicRing.ring in
    let S = g.EF.PrimeCharacteristicRing.ring in
    let embed = g.EF.ExtensionDomain.embed in
    let challenges = c.args.inputs.now.challenges.now in
    let D = key_denominator_over S embed challenges in
    let windows = window_of (traces_of c.args.inputs.now.traces.now) in
    let w = windows r in
    let lookup = c.args.lookup.now in
    let column = lookup.column in
    let i = c.args.branch in
    let lt = c.requires.branch_exists in
    let multiplicity_steps = c.index.result.now in
    let tuple_steps = c.index-2.result.now in
    let multiplicity_beside = beside AreStepsOf c.args.steps.now.multiplicities.items lookup.multiplicities.items i multiplicity_steps c.requires.inputs.steps.multiplicities
    (omega (arith, AllZip-long AreStepsOf c.args.steps.now.multiplicities.items lookup.multiplicities.items c.requires.inputs.steps.multiplicities, c.requires.inputs.lengths.multiplicities, lt)) c.index.ensures in
    let multiplicity = multiplicity_beside.item in
    let tuple_beside = beside AreTupleSteps c.args.steps.now.elements.items lookup.elements.items i tuple_steps c.requires.inputs.steps.elements
    (omega (arith, AllZip-long AreTupleSteps c.args.steps.now.elements.items lookup.elements.items c.requires.inputs.steps.elements, lt)) c.index-2.ensures in
    let tuple = tuple_beside.item in
    let ms = branches_at R w column lookup in
    let alpha_is = get_or_default challenges (2 * column) c.index-inputs-lookup.result S.zero (omega (arith, c.requires.inputs.challenges)) in
    let beta_is = get_or_default challenges (2 * column + 1) c.index-inputs-lookup-2.result S.zero c.requires.inputs.challenges in
    let at = tuple_denominator_at R S embed (get_or challenges (2 * column) c.index-inputs-lookup.result) (get_or challenges (2 * column + 1) c.index-inputs-lookup-2.result) in
    let over = mapped_there (λ row. at (windows row) tuple.items) c.args.rows.now c.in_ok-denominators.denominators.items index r (c.in_ok-denominators.ensures tuple.items (subst (λ (l : List _). AllZip AreStepsOf l tuple.items) (sym c.deref-2.ensures.value) tuple_beside.holds)) there in
    let is : branch_at R w column tuple.items multiplicity ≡ m =
    zipped_at (λ b. branch_at R w column b.0.items b.1) lookup.elements.items lookup.multiplicities.items c.requires.inputs.lengths.multiplicities i tuple multiplicity lt tuple_beside.there multiplicity_beside.there
    ∙ get_or_from_slice_get ms i m (branch_at R w column tuple.items multiplicity) m_there in (
      mapped_there (λ row. value R (windows row) multiplicity) c.args.rows.now c.in_ok-multiplicities.multiplicities.items index r (c.in_ok-multiplicities.ensures (tree_of multiplicity) (c.deref.ensures.value ∙ multiplicity_beside.holds)) there ∙ ap (λ (n : Message _). Some n.multiplicity) is,
      over ∙ (λ k. Some (sub_in S (alpha_is k) (combined S (map embed (values R w tuple.items)) (beta_is k)))) ∙ ap (λ (n : Message _). Some (D n.key)) is,
    )

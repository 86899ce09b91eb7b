use Rattle.std.proofs.Common.{◌<◌, All, List, length, ap, sym, subst, ◌∙◌, arith}
use Rattle.std.proofs.lemmas.List.{length-map}
use Rattle.std.proofs.lemmas.Slice.Zip.{AllZip-long}
use Rattle.std.specs.List.{slice_get}
use Rattle.list_laws.proofs.Each.{All-at}
use Rattle.list_laws.proofs.Images.{mapped_at}
use Rattle.list_laws.proofs.Items.{item_at, item_there}
use Rattle.list_laws.proofs.Zips.{AllZip-all_right, AllZip-more_right}
use Rattle.air_expressions.specs.Tree.{tree_of}
use Rattle.air.specs.Traces.{height_of, layout_of, traces_of, window_of}
use Rattle.lookup_columns.proofs.ChunkColumnLaws.{mapped_there}
use Rattle.lookup_columns.proofs.StepLaws.{all_steps_fit}
use Rattle.lookup_columns.proofs.ZipLaws.{beside}
use Rattle.lookup_columns.specs.ChunkColumns.{HasFlag, IsStoredIfSet, key_denominator_over}
use Rattle.lookup_columns.specs.Steps.{AreStepsOf, StepFits, StepsFit}
use Rattle.lookup_model.proofs.Branches.{length-branches_at}
use Rattle.lookup_model.specs.Sent.{branches_at, value, values}
use Rattle.lookup_columns.proofs.branches.exclusive_columns.Goals as goal

pub index-requires : goal.index-requires
index-requires g c =
    omega (arith, AllZip-long AreStepsOf c.args.steps.now.flags.items c.args.flags.now c.requires.flag_steps, c.args.steps.now.flags.ok.0, c.loop-branch-test.true, c.loop-branch.auto.branch-end)

pub column_of-requires-clause-fits : goal.column_of-requires-clause-fits
column_of-requires-clause-fits g c =
    let layout = layout_of (traces_of c.args.inputs.now.traces.now) in
    let steps = c.args.steps.now.flags.items in
    let lt : c.loop-branch.branch < length steps = omega (arith, AllZip-long AreStepsOf steps c.args.flags.now c.requires.flag_steps, c.loop-branch-test.true) in
    subst (All (StepFits layout)) (sym c.deref.ensures.value)
    (All-at (StepsFit layout) steps c.loop-branch.branch c.index.result.now (all_steps_fit layout steps c.args.flags.now c.requires.flag_steps c.requires.flags_fit) lt c.index.ensures)

pub selected_rows-requires : goal.selected_rows-requires
selected_rows-requires g c =
    let steps = c.args.steps.now.flags.items in
    let lt : c.loop-branch.branch < length steps = omega (arith, AllZip-long AreStepsOf steps c.args.flags.now c.requires.flag_steps, c.loop-branch-test.true) in
    let flag_beside = beside AreStepsOf steps c.args.flags.now c.loop-branch.branch c.index.result.now c.requires.flag_steps lt c.index.ensures in
    let e = flag_beside.item in
    let windows = window_of (traces_of c.args.inputs.now.traces.now) in
    ap length c.deref-in-loop-branch.ensures.value ∙ ap length (c.in_ok-column.ensures (tree_of e) (c.deref.ensures.value ∙ flag_beside.holds)) ∙ length-map c.args.inputs.now.rows.now (λ row. value g.F.PrimeCharacteristicRing.ring (windows row) e)

pub branch_columns-requires-clause-rows_exist : goal.branch_columns-requires-clause-rows_exist
branch_columns-requires-clause-rows_exist g c =
    let height = height_of (traces_of c.args.inputs.now.traces.now) in
    subst (λ (l : List _). All (λ r. r < height) l) (sym c.deref-in-loop-branch-2.ensures.value) (c.in_ok-indices.ensures.rows_exist height c.requires.inputs.rows_exist)

pub loop-branch-preserved : goal.loop-branch-preserved
loop-branch-preserved g c = λ index r there.
    let R = g.F.PrimeCharacteristicRing.ring in
    let inputs = c.args.inputs.now in
    let D = key_denominator_over g.EF.PrimeCharacteristicRing.ring g.EF.ExtensionDomain.embed inputs.challenges.now in
    let w = window_of (traces_of inputs.traces.now) r in
    let lookup = c.args.lookup.now in
    let flags = c.args.flags.now in
    let i = c.loop-branch.branch in
    let steps = c.args.steps.now.flags.items in
    let lt_steps : i < length steps = omega (arith, AllZip-long AreStepsOf steps flags c.requires.flag_steps, c.loop-branch-test.true) in
    let flag_beside = beside AreStepsOf steps flags i c.index.result.now c.requires.flag_steps lt_steps c.index.ensures in
    let e = flag_beside.item in
    let ms = branches_at R w lookup.column lookup in
    let lt : i < length ms = omega (arith, length-branches_at R w lookup.column lookup c.requires.inputs.lengths) in
    let (m, m_is) = item_at ms i lt in
    let new = record c.in_ok-columns.columns { flags = c.in_ok-column.column; indices = c.in_ok-indices.indices } in
    let so_far = c.loop-branch.invariant index r there in
    let flag : HasFlag index new (value R w e) =
    mapped_there (λ row. value R (window_of (traces_of inputs.traces.now) row) e) inputs.rows.now new.flags.items index r (c.in_ok-column.ensures (tree_of e) (c.deref.ensures.value ∙ flag_beside.holds)) there in
    let stored : IsStoredIfSet R D index new m =
    λ f has nonzero.
    let placed = c.in_ok-indices.ensures.indices.at index r f there (ap (λ l. slice_get l index) c.deref-in-loop-branch.ensures.value ∙ has) nonzero in
    record {
      at = placed.at;
      there = placed.there;
      held = c.in_ok-columns.ensures placed.at r m (ap (λ l. slice_get l placed.at) c.deref-in-loop-branch-2.ensures.value ∙ placed.selected_there) (item_there ms i m lt m_is);
    } in
    record {
      flags_are = AllZip-more_right (HasFlag index) _ _ (values R w flags) i new (value R w e) (omega (arith, length-map flags (value R w))) (mapped_at (value R w) flags i e c.loop-branch-test.true flag_beside.there) c.in_ok-push.ensures.items flag so_far.flags_are;
      held = AllZip-more_right (IsStoredIfSet R D index) _ _ ms i new m lt m_is c.in_ok-push.ensures.items stored so_far.held;
    }

pub returns : goal.returns
returns g c = λ index r there.
    let R = g.F.PrimeCharacteristicRing.ring in
    let D = key_denominator_over g.EF.PrimeCharacteristicRing.ring g.EF.ExtensionDomain.embed c.args.inputs.now.challenges.now in
    let w = window_of (traces_of c.args.inputs.now.traces.now) r in
    let lookup = c.args.lookup.now in
    let so_far = c.loop-branch.invariant index r there in
    record {
      flags_are = AllZip-all_right (HasFlag index) _ _ c.loop-branch.branch (omega (arith, c.loop-branch-test.false, length-map c.args.flags.now (value R w))) so_far.flags_are;
      held = AllZip-all_right (IsStoredIfSet R D index) _ _ c.loop-branch.branch (omega (arith, c.loop-branch-test.false, length-branches_at R w lookup.column lookup c.requires.inputs.lengths, c.requires.flag_number)) so_far.held;
    }

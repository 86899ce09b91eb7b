use Rattle.std.proofs.Common.{◌-◌, ℕ, List, subst, ◌∙◌, arith}
use Rattle.std.proofs.lemmas.List.{take_all}
use Rattle.std.proofs.lemmas.Slice.Zip.{AllZip-long}
use Rattle.list_laws.proofs.Zips.{AllZip-both_at}
use Rattle.list_laws.proofs.Each.{All-at}
use Rattle.air.specs.Row.{input_layout, input_window}
use Rattle.lookup_columns.proofs.ChunkColumnLaws.{range_below}
use Rattle.lookup_columns.proofs.StoredRows.{columns_store}
use Rattle.lookup_columns.specs.LookupSteps.{AreLookupSteps}
use Rattle.lookup_model.proofs.Lookups.SentRows.{column_is, equal_lengths}
use Rattle.field.specs.laws.Extension.{of_laws}
use Rattle.lookup_model.specs.Records.{IsWithin}
use Rattle.matrix.specs.Matrix.{height}
use Rattle.checker_witness.proofs.HoldsLaws.{BothHold, both_fewer, both_from, both_more, holds_from}
use Rattle.lookup_model.proofs.Layouts.{LookupsFit-with_auxiliary, with_auxiliary}
use Rattle.checker_witness.proofs.UntilLaws.{both_until, same_until}
use Rattle.checker_witness.specs.Ranges.{HoldsUntil}
use Rattle.checker_witness.proofs.chunks.chunk_holds_until.Goals as goal

pub loop-i-init : goal.loop-i-init
loop-i-init g c =
    same_until (λ s accumulator. (accumulator, tt)) (λ s both. both.0) c.accumulator_holds_until-until.result c.accumulator_holds_until-until.ensures

pub bounds-steps-i : goal.bounds-steps-i
bounds-steps-i g c =
    omega (arith, AllZip-long AreLookupSteps c.args.steps.now c.args.lookups.now c.requires.steps, c.loop-i-test.true)

pub columns_of_lookup-requires : goal.columns_of_lookup-requires
columns_of_lookup-requires g c =
    let layout = input_layout c.args.inputs.now in
    let checked = c.requires.checked in
    let lookups = c.args.lookups.now in
    let i = c.loop-i.i in
    let lookup = c.index-lookups-i.result in
    record {
      steps = AllZip-both_at AreLookupSteps c.args.steps.now lookups i c.index-steps-i.result lookup c.requires.steps c.loop-i-test.true c.index-steps-i.is c.index-lookups-i.is;
      lengths = equal_lengths lookups i lookup checked.fit.records c.loop-i-test.true c.index-lookups-i.is;
      within = All-at (IsWithin (with_auxiliary layout 0 0 0)) lookups i lookup (LookupsFit-with_auxiliary layout 0 0 0 lookups checked.fit).within c.loop-i-test.true c.index-lookups-i.is;
      challenges = omega (arith, column_is lookups i lookup checked.fit.records c.loop-i-test.true c.index-lookups-i.is, checked.challenges, c.loop-i-test.true);
      rows_exist = range_below c.args.first (c.args.end - c.args.first) (height c.args.inputs.now.main.now) c.deref.result.now (c.deref.ensures.value ∙ c.in_ok-rows.ensures) (omega (arith, c.requires.from, c.requires.up_to));
    }

pub lookup_holds_until-requires-clause-cell :
    goal.lookup_holds_until-requires-clause-cell
lookup_holds_until-requires-clause-cell g c =
    omega (arith, column_is c.args.lookups.now c.loop-i.i c.index-lookups-i.result c.requires.checked.fit.records c.loop-i-test.true c.index-lookups-i.is, c.requires.checked.cells, c.loop-i-test.true)

pub lookup_holds_until-requires-clause-columns :
    goal.lookup_holds_until-requires-clause-columns
lookup_holds_until-requires-clause-columns g c =
    let inputs = c.args.inputs.now in
    let window = λ (row : ℕ). (input_window inputs row).base in
    let held = columns_store g.F.PrimeCharacteristicRing.ring g.EF.PrimeCharacteristicRing.ring g.EF.ExtensionDomain.embed inputs.challenges.now window c.args.first c.args.end c.deref.result.now c.index-lookups-i.result c.in_ok-columns.columns.items c.deref-in-loop-i.result.now (c.deref.ensures.value ∙ c.in_ok-rows.ensures) c.deref-in-loop-i.ensures.value c.in_ok-columns.ensures in
    λ row low high. held row low (omega (arith, high, c.loop-i.invariant.up_to))

pub loop-i-preserved : goal.loop-i-preserved
loop-i-preserved g c =
    let E = of_laws g.met.EF.ExtensionField.lawful_fields in
    let inputs = c.args.inputs.now in
    let lookups = c.args.lookups.now in
    let i = c.loop-i.i in
    let lookup = c.index-lookups-i.result in
    let until = c.in_ok-until.until in
    same_until (λ s. both_more E (input_window inputs s) lookups i lookup c.loop-i-test.true c.index-lookups-i.is) (λ s. both_fewer E (input_window inputs s) lookups i lookup c.loop-i-test.true c.index-lookups-i.is) until
    (both_until c.loop-i.until until c.loop-i.invariant c.in_ok-until.ensures)

pub returns : goal.returns
returns g c =
    let E = of_laws g.met.EF.ExtensionField.lawful_fields in
    let inputs = c.args.inputs.now in
    let lookups = c.args.lookups.now in
    let until = c.loop-i.until in
    same_until (λ s. holds_from E (input_window inputs s) lookups) (λ s. both_from E (input_window inputs s) lookups) until
    (subst (λ (ls : List _). HoldsUntil (λ r. BothHold E (input_window inputs r) lookups ls) c.args.first c.args.end until) (take_all c.loop-i.i lookups (omega (arith, c.loop-i-test.false))) c.loop-i.invariant)

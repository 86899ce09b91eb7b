use Rattle.std.proofs.Common.{◌<◌, ◌≤◌, ◌-◌, IfSome, Option, inr, subst, ◌∙◌, arith}
use Rattle.air.specs.Traces.{height_of, traces_of, window_of}
use Rattle.lookup_model.specs.Denominators.{key_denominator}
use Rattle.field.specs.Extension.{extension}
use Rattle.lookup_columns.proofs.ChunkColumnLaws.{range_below}
use Rattle.lookup_columns.proofs.StoredRows.{all_columns_store}
use Rattle.lookup_generation.specs.declared.chunk.RowFault.{RowFault}
use Rattle.lookup_generation.specs.internal.Fraction.{ratios_in}
use Rattle.lookup_generation.specs.internal.Progress.{AnswersPushColumns, AreFirstIn}
use Rattle.lookup_generation.proofs.chunk.chunk_ratios.Goals as goal

pub columns_of_lookups-requires-clause-rows_exist :
    goal.columns_of_lookups-requires-clause-rows_exist
columns_of_lookups-requires-clause-rows_exist g c =
    range_below c.args.first (c.args.end - c.args.first) (height_of (traces_of c.args.inputs.now.traces.now)) c.deref.result.now (c.deref.ensures.value ∙ c.in_ok-rows.ensures) (omega (arith, c.requires.from, c.requires.up_to))

pub push_columns-requires-clause-columns : goal.push_columns-requires-clause-columns
push_columns-requires-clause-columns g c =
    let windows = window_of (traces_of c.args.inputs.now.traces.now) in
    (c.args.inputs.now.challenges.now, windows, all_columns_store g.F.PrimeCharacteristicRing.ring g.EF.PrimeCharacteristicRing.ring g.EF.ExtensionDomain.embed c.args.inputs.now.challenges.now windows c.args.first c.args.end c.args.inputs.now.lookups.now c.deref.result.now c.in_ok-columns.columns.items c.deref-2.result.now (c.deref.ensures.value ∙ c.in_ok-rows.ensures) c.deref-2.ensures.value c.in_ok-columns.ensures)

pub returns-in_ok-put_columns-in-None-clause-answers : goal.returns-in_ok-put_columns-in-None-clause-answers
returns-in_ok-put_columns-in-None-clause-answers g c = λ inverse is_inverse.
    let E = extension g.F.PrimeCharacteristicRing.ring g.F.PartialEq.eq g.EF.PrimeCharacteristicRing.ring g.EF.PartialEq.eq g.EF.ExtensionDomain.embed inverse in
    let windows = window_of (traces_of c.args.inputs.now.traces.now) in
    let held = all_columns_store g.F.PrimeCharacteristicRing.ring g.EF.PrimeCharacteristicRing.ring g.EF.ExtensionDomain.embed c.args.inputs.now.challenges.now windows c.args.first c.args.end c.args.inputs.now.lookups.now c.deref.result.now c.in_ok-columns.columns.items c.deref-2.result.now (c.deref.ensures.value ∙ c.in_ok-rows.ensures) c.deref-2.ensures.value c.in_ok-columns.ensures in
    subst (AnswersPushColumns E (key_denominator E c.args.inputs.now.challenges.now) windows c.args.inputs.now.lookups.now c.args.first c.args.end (ratios_in c.push_columns.new.ratios)) c.in-None.is (c.in_ok-fault.ensures.answers inverse is_inverse c.args.inputs.now.challenges.now windows held)

pub returns-in-Some-clause-answers : goal.returns-in-Some-clause-answers
returns-in-Some-clause-answers g c = λ inverse is_inverse.
    let E = extension g.F.PrimeCharacteristicRing.ring g.F.PartialEq.eq g.EF.PrimeCharacteristicRing.ring g.EF.PartialEq.eq g.EF.ExtensionDomain.embed inverse in
    let denominator = key_denominator E c.args.inputs.now.challenges.now in
    let fault = c.in-Some.field-0 in
    let there = subst (λ (f : Option RowFault). IfSome f (λ x. (c.args.first ≤ x.row) × (x.row < c.args.end))) c.in-Some.is c.in_ok-fault.ensures.there in
    let windows = window_of (traces_of c.args.inputs.now.traces.now) in
    let held = all_columns_store g.F.PrimeCharacteristicRing.ring g.EF.PrimeCharacteristicRing.ring g.EF.ExtensionDomain.embed c.args.inputs.now.challenges.now windows c.args.first c.args.end c.args.inputs.now.lookups.now c.deref.result.now c.in_ok-columns.columns.items c.deref-2.result.now (c.deref.ensures.value ∙ c.in_ok-rows.ensures) c.deref-2.ensures.value c.in_ok-columns.ensures in
    let found : AreFirstIn E denominator windows c.args.inputs.now.lookups.now c.args.first fault =
    subst (AnswersPushColumns E denominator windows c.args.inputs.now.lookups.now c.args.first c.args.end (ratios_in c.push_columns.new.ratios)) c.in-Some.is (c.in_ok-fault.ensures.answers inverse is_inverse c.args.inputs.now.challenges.now windows held) in
    inr (record { row = fault.row; from = there.0; before = there.1; fault_is = found.fault_is; faultless = found.faultless })

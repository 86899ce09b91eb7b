use Rattle.std.proofs.Common.{Some, subst, sym, ◌∙◌, refl, arith}
use Rattle.std.proofs.lemmas.Bool.{iff_false}
use Rattle.air_expressions.specs.declared.layout.AirLayout.{AirLayout}
use Rattle.field.specs.laws.Extension.{of_laws}
use Rattle.lookup_model.specs.Batches.Instances.{instance_of}
use Rattle.lookup_model.specs.Records.{LookupsFit}
use Rattle.lookup_model.specs.Witness.{HoldsOnRow}
use Rattle.matrix.specs.Matrix.{height}
use Rattle.checker_witness.specs.internal.TraceRows.{trace_window}
use Rattle.checker_witness.proofs.CheckedInputs.{shaped, some_lookups}
use Rattle.checker_witness.proofs.UntilLaws.{holds_on_next, until_end}
use Rattle.checker_witness.proofs.FewRowLaws.{accumulator_from, fractions_from, row_from}
use Rattle.checker_witness.proofs.few_rows.few_hold_until.Goals as goal

pub accumulator_holds-requires : goal.accumulator_holds-requires
accumulator_holds-requires g c =
    let i = c.args.instance.now in
    let some = some_lookups i.lookups.now (height i.main.now) c.args.aux.now c.args.terminal c.requires.shape in
    let shape = shaped i.lookups.now (height i.main.now) c.args.aux.now (Some c.args.terminal) c.requires.shape some in
    record {
      rows = (c.height-num_rows.ensures.height ∙ sym shape.0, omega (arith, c.loop-row-test.true, c.requires.range.1, c.height-num_rows.ensures.height));
      some = some;
      records = c.requires.columns.fit.records;
      cells = shape.1;
    }

pub new-trace_row-requires : goal.new-trace_row-requires
new-trace_row-requires g c = record {
  rows = c.height-num_rows.ensures.height;
  row_exists = omega (arith, c.loop-row-test.true, c.requires.range.1, c.height-num_rows.ensures.height);
}

pub fractions_hold-requires : goal.fractions_hold-requires
fractions_hold-requires g c =
    let i = c.args.instance.now in
    let some = some_lookups i.lookups.now (height i.main.now) c.args.aux.now c.args.terminal c.requires.shape in
    let shape = shaped i.lookups.now (height i.main.now) c.args.aux.now (Some c.args.terminal) c.requires.shape some in
    record {
      fit = subst (λ (layout : AirLayout). LookupsFit layout i.lookups.now) (sym c.new-trace_row.ensures.layout) c.requires.columns.fit;
      cells = omega (arith, c.row_slice-cells.ensures.len, shape.1);
      challenges = c.requires.columns.enough;
    }

pub returns-then-not-accumulator_holds : goal.returns-then-not-accumulator_holds
returns-then-not-accumulator_holds g c =
    let E = of_laws g.met.EF.ExtensionField.lawful_fields in
    let i = c.args.instance.now in
    let some = some_lookups i.lookups.now (height i.main.now) c.args.aux.now c.args.terminal c.requires.shape in
    let shape = shaped i.lookups.now (height i.main.now) c.args.aux.now (Some c.args.terminal) c.requires.shape some in
    record {
      from = c.loop-row.auto.row;
      up_to = omega (arith, c.loop-row-test.true);
      holds = c.loop-row.invariant;
      fails = λ lt holds. iff_false c.accumulator_holds.ensures c.if-not-accumulator_holds.true (accumulator_from E (instance_of i).traces i.lookups.now c.args.challenges.now c.args.aux.now c.args.terminal c.loop-row.row shape.0 holds);
    }

pub returns-then-not-fractions_hold : goal.returns-then-not-fractions_hold
returns-then-not-fractions_hold g c =
    let E = of_laws g.met.EF.ExtensionField.lawful_fields in
    let i = c.args.instance.now in
    let some = some_lookups i.lookups.now (height i.main.now) c.args.aux.now c.args.terminal c.requires.shape in
    let shape = shaped i.lookups.now (height i.main.now) c.args.aux.now (Some c.args.terminal) c.requires.shape some in
    record {
      from = c.loop-row.auto.row;
      up_to = omega (arith, c.loop-row-test.true);
      holds = c.loop-row.invariant;
      fails = λ lt holds. iff_false c.fractions_hold.ensures c.if-not-fractions_hold.true (fractions_from E (instance_of i).traces i.lookups.now c.args.challenges.now c.args.aux.now c.args.terminal c.loop-row.row shape.0 (trace_window c.new-trace_row.result) c.row_slice-cells.result.now c.new-trace_row.ensures.window c.row_slice-cells.ensures.row holds);
    }

pub loop-row-preserved : goal.loop-row-preserved
loop-row-preserved g c =
    let E = of_laws g.met.EF.ExtensionField.lawful_fields in
    let i = c.args.instance.now in
    let some = some_lookups i.lookups.now (height i.main.now) c.args.aux.now c.args.terminal c.requires.shape in
    let shape = shaped i.lookups.now (height i.main.now) c.args.aux.now (Some c.args.terminal) c.requires.shape some in
    holds_on_next _ c.args.first c.loop-row.row c.loop-row.invariant
    (row_from E (instance_of i).traces i.lookups.now c.args.challenges.now c.args.aux.now c.args.terminal c.loop-row.row shape.0 (trace_window c.new-trace_row.result) c.row_slice-cells.result.now c.new-trace_row.ensures.window c.row_slice-cells.ensures.row
    (c.accumulator_holds.ensures.0 c.if-not-accumulator_holds.false) (c.fractions_hold.ensures.0 c.if-not-fractions_hold.false))

pub returns : goal.returns
returns g c =
    let E = of_laws g.met.EF.ExtensionField.lawful_fields in
    let i = instance_of c.args.instance.now in
    until_end (HoldsOnRow E i.traces i.lookups c.args.challenges.now c.args.aux.now (Some c.args.terminal)) c.args.first c.args.end c.args.end c.requires.range.0 refl
    (λ s low high. c.loop-row.invariant s low (omega (arith, high, c.loop-row-test.false)))

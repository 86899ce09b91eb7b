use Rattle.std.proofs.Common.{slice_index_or, ◌∙◌, sym, arith}
use Rattle.std.proofs.lemmas.Bool.{iff_false}
use Rattle.std.proofs.lemmas.List.{get_or_default}
use Rattle.field.specs.laws.Extension.{of_laws}
use Rattle.checker_witness.specs.internal.Rows.{AccumulatorHolds}
use Rattle.checker_witness.proofs.HoldsLaws.{accumulator_of, accumulator_on}
use Rattle.checker_witness.proofs.UntilLaws.{holds_on_next}
use Rattle.checker_witness.proofs.accumulator.accumulator_holds_until.Goals as goal

pub accumulator_holds-requires : goal.accumulator_holds-requires
accumulator_holds-requires g c = record {
  rows = (c.height-num_rows.ensures.height ∙ sym c.requires.checked.permutation, omega (arith, c.loop-row-test.true, c.requires.up_to, c.height-num_rows.ensures.height));
  some = c.requires.checked.some;
  records = c.requires.checked.fit.records;
  cells = c.requires.checked.cells;
}

pub loop-row-preserved : goal.loop-row-preserved
loop-row-preserved g c =
    let E = of_laws g.met.EF.ExtensionField.lawful_fields in
    let inputs = c.args.inputs.now in
    let checked = c.requires.checked in
    let terminal = slice_index_or inputs.permutation_values.now 0 c.index-inputs-0.result in
    let terminal_is = get_or_default inputs.permutation_values.now 0 c.index-inputs-0.result E.ring.zero checked.terminal in
    holds_on_next (AccumulatorHolds E inputs c.args.lookups.now) c.args.first c.loop-row.row c.loop-row.invariant
    (accumulator_on E inputs terminal c.loop-row.row checked.permutation terminal_is c.args.lookups.now (c.accumulator_holds.ensures.0 c.if-not-accumulator_holds.false))

pub returns-then-not-accumulator_holds : goal.returns-then-not-accumulator_holds
returns-then-not-accumulator_holds g c =
    let E = of_laws g.met.EF.ExtensionField.lawful_fields in
    let inputs = c.args.inputs.now in
    let checked = c.requires.checked in
    let terminal = slice_index_or inputs.permutation_values.now 0 c.index-inputs-0.result in
    let terminal_is = get_or_default inputs.permutation_values.now 0 c.index-inputs-0.result E.ring.zero checked.terminal in
    record {
      from = omega (arith, c.loop-row.auto.row);
      up_to = omega (arith, c.loop-row-test.true);
      holds = c.loop-row.invariant;
      fails = λ _ holds. iff_false c.accumulator_holds.ensures c.if-not-accumulator_holds.true (accumulator_of E inputs terminal c.loop-row.row checked.permutation terminal_is c.args.lookups.now holds);
    }

pub returns : goal.returns
returns g c = record {
  from = c.requires.from;
  up_to = omega arith;
  holds = λ s low high. c.loop-row.invariant s low (omega (arith, high, c.loop-row-test.false));
  fails = λ beyond. absurd (omega (arith, beyond));
}

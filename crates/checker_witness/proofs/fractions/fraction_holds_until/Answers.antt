use Rattle.std.proofs.Common.{arith}
use Rattle.field.specs.laws.Extension.{of_laws}
use Rattle.checker_witness.specs.internal.Rows.{FractionHolds}
use Rattle.checker_witness.proofs.UntilLaws.{holds_on_next}
use Rattle.checker_witness.proofs.fractions.fraction_holds_until.Goals as goal

pub fraction_holds-requires-clause-columns : goal.fraction_holds-requires-clause-columns
fraction_holds-requires-clause-columns g c = c.requires.columns c.loop-row.row c.loop-row.auto.row c.loop-row-test.true

pub loop-row-preserved : goal.loop-row-preserved
loop-row-preserved g c =
    holds_on_next (FractionHolds (of_laws g.met.EF.ExtensionField.lawful_fields) c.args.inputs.now c.args.lookup.now) c.args.first c.loop-row.row c.loop-row.invariant (c.fraction_holds.ensures.0 c.if-not-fraction_holds.false)

pub returns : goal.returns
returns g c = record {
  from = c.requires.from;
  up_to = omega arith;
  holds = λ s low high. c.loop-row.invariant s low (omega (arith, high, c.loop-row-test.false));
  fails = λ beyond. absurd (omega (arith, beyond));
}

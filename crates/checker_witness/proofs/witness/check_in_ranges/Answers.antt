use Rattle.std.proofs.Common.{◌*◌, List, Result, Ok, Err, get_or, inr, length, refl, subst, ◌∙◌, ap, arith}
use Rattle.air.specs.Traces.{height_of}
use Rattle.lookup_generation.proofs.MadeRows.{all_ends, next_end}
use Rattle.field.specs.laws.Extension.{of_laws}
use Rattle.lookup_model.specs.Batches.Instances.{instance_of}
use Rattle.lookup_model.specs.Batches.Witnesses.{AirResult}
use Rattle.lookup_model.specs.Witness.{HoldsOnRow}
use Rattle.lookup_model.specs.declared.error.LookupError.TheVariants.{ConstraintFailed}
use Rattle.checker_witness.specs.Columns.{ChecksColumns, ColumnsHoldUntil}
use Rattle.checker_witness.proofs.CheckLaws.{first_failing, satisfied_sum}
use Rattle.checker_witness.proofs.UntilLaws.{joined}
use Rattle.checker_witness.proofs.witness.check_in_ranges.Goals as goal

pub columns_hold_until-requires-clause-columns : goal.columns_hold_until-requires-clause-columns
columns_hold_until-requires-clause-columns g c =
    let fit = c.requires.fit in record {
      fit = fit.fit;
      heights = fit.heights;
      enough = omega (arith, ap length c.deref.ensures.value, c.in_ok-columns.ensures.len, fit.ids);
    }

pub columns_hold_until-requires-clause-nonempty : goal.columns_hold_until-requires-clause-nonempty
columns_hold_until-requires-clause-nonempty g c = c.requires.fit.nonempty

pub columns_hold_until-requires-clause-range : goal.columns_hold_until-requires-clause-range
columns_hold_until-requires-clause-range g c =
    let next = next_end c.loop-end.first c.args.ends.now (height_of (instance_of c.args.instance.now).traces) c.loop-end.end-index c.loop-end-test.true c.loop-end.invariant.0 in
    (next.0, next.2)

pub returns-then-row-end : goal.returns-then-row-end
returns-then-row-end g c =
    let E = of_laws g.met.EF.ExtensionField.lawful_fields in
    let i = instance_of c.args.instance.now in
    let result : AirResult _ = (c.args.aux.now, c.args.terminal.now) in
    let columns = c.in_ok-columns.columns.items in
    let next = next_end c.loop-end.first c.args.ends.now (height_of i.traces) c.loop-end.end-index c.loop-end-test.true c.loop-end.invariant.0 in
    let end = get_or c.args.ends.now c.loop-end.end-index 0 in
    let until = subst (λ (challenges : List _). ColumnsHoldUntil E i.traces i.lookups challenges result c.loop-end.first end c.in_ok-row.row) c.deref.ensures.value c.in_ok-row.ensures.holds in
    subst (λ (challenges : List _). ChecksColumns E i.traces i.lookups challenges result c.args.air (Err (ConstraintFailed c.args.air c.in_ok-row.row))) c.in_ok-columns.ensures.challenges
    (inr (inr (c.in_ok-check_shape.ensures, (c.in_ok-row.row, first_failing E i.traces i.lookups columns result c.loop-end.first end c.in_ok-row.row c.loop-end.invariant.1 next.2 until c.if-row-end.true, refl))))

pub loop-end-preserved : goal.loop-end-preserved
loop-end-preserved g c =
    let E = of_laws g.met.EF.ExtensionField.lawful_fields in
    let i = instance_of c.args.instance.now in
    let columns = c.in_ok-columns.columns.items in
    let next = next_end c.loop-end.first c.args.ends.now (height_of i.traces) c.loop-end.end-index c.loop-end-test.true c.loop-end.invariant.0 in
    let end = get_or c.args.ends.now c.loop-end.end-index 0 in
    let result : AirResult _ = (c.args.aux.now, c.args.terminal.now) in
    let until = subst (λ (challenges : List _). ColumnsHoldUntil E i.traces i.lookups challenges result c.loop-end.first end c.in_ok-row.row) c.deref.ensures.value c.in_ok-row.ensures.holds in (
      next.1,
      λ s lt. joined (HoldsOnRow E i.traces i.lookups columns c.args.aux.now c.args.terminal.now) 0 c.loop-end.first end c.in_ok-row.row (λ t low high. c.loop-end.invariant.1 t high) until s (omega arith) (omega (arith, lt, c.if-row-end.false)),
    )

pub returns : goal.returns
returns g c =
    let laws = g.met.EF.ExtensionField.lawful_fields in
    let E = of_laws laws in
    let i = instance_of c.args.instance.now in
    let result : AirResult _ = (c.args.aux.now, c.args.terminal.now) in
    let all = all_ends c.loop-end.first c.args.ends.now (height_of i.traces) c.loop-end.end-index (omega (arith, c.loop-end-test.false)) c.loop-end.invariant.0 in
    subst (λ (challenges : List _). ChecksColumns E i.traces i.lookups challenges result c.args.air (Ok _)) c.in_ok-columns.ensures.challenges
    (satisfied_sum E i.traces i.lookups c.in_ok-columns.columns.items laws c.requires.fit.nonempty result
    (record { shape = c.in_ok-check_shape.ensures; equations = λ r lt. c.loop-end.invariant.1 r (omega (arith, lt, all)) }))

use Rattle.std.proofs.Common.{inr, refl, arith}
use Rattle.field.specs.laws.Extension.{of_laws}
use Rattle.lookup_model.specs.Batches.Instances.{instance_of}
use Rattle.lookup_model.specs.Batches.Witnesses.{AirResult}
use Rattle.checker_witness.proofs.CheckLaws.{first_failing, satisfied_sum}
use Rattle.checker_witness.proofs.columns.check_in_columns.Goals as goal

pub returns-then-row-height : goal.returns-then-row-height
returns-then-row-height g c =
    let E = of_laws g.met.EF.ExtensionField.lawful_fields in
    let i = instance_of c.args.instance.now in
    let result : AirResult _ = (c.args.aux.now, c.args.terminal.now) in
    inr (inr (c.in_ok-check_shape.ensures, (c.in_ok-row.row, first_failing E i.traces i.lookups c.args.challenges.now result 0 c.height-height.result c.in_ok-row.row (λ s none. absurd (omega (arith, none))) (omega (arith, c.height-height.ensures.height)) c.in_ok-row.ensures.holds c.if-row-height.true, refl)))

pub returns : goal.returns
returns g c =
    let laws = g.met.EF.ExtensionField.lawful_fields in
    let i = instance_of c.args.instance.now in
    satisfied_sum (of_laws laws) i.traces i.lookups c.args.challenges.now laws c.requires.nonempty (c.args.aux.now, c.args.terminal.now) (record {
      shape = c.in_ok-check_shape.ensures;
      equations = λ r lt. c.in_ok-row.ensures.holds.holds r (omega arith) (omega (arith, lt, c.if-row-height.false, c.height-height.ensures.height));
    })

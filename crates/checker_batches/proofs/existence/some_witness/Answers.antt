use Rattle.std.proofs.Common.{List, take, subst, sym, arith}
use Rattle.std.proofs.lemmas.List.{length-map, take_all}
use Rattle.lookup_model.specs.Challenges.{table_of}
use Rattle.field.specs.laws.Extension.{of_laws}
use Rattle.lookup_model.specs.Batches.Instances.{instance_of, instances_of}
use Rattle.lookup_model.specs.internal.Equations.{Equation, batch_equations}
use Rattle.checker_batches.specs.internal.Sums.{AreSums}
use Rattle.checker_witness.proofs.InstanceLaws.{fitting_all}
use Rattle.checker_batches.proofs.SumWalk.{batch_more, decided, none_accepted}
use Rattle.checker_batches.proofs.existence.some_witness.Goals as goal

pub loop-air-preserved : goal.loop-air-preserved
loop-air-preserved g c =
    let E = of_laws g.met.EF.ExtensionField.lawful_fields in
    let table = table_of c.args.challenges.now in
    let bs = c.args.instances.now in
    subst (λ (es : List (Equation _)). AreSums E.ring es c.in_ok-sums.sums) (sym (batch_more E table bs c.loop-air.air c.index-instances-air.result c.loop-air-test.true c.index-instances-air.is))
    (c.in_ok-sums.ensures (batch_equations E table (take c.loop-air.air (instances_of bs))) c.loop-air.invariant)

pub returns-then-is_nothing : goal.returns-then-is_nothing
returns-then-is_nothing g c =
    let bs = c.args.instances.now in
    let none = none_accepted g.met.EF.ExtensionField.lawful_fields (table_of c.args.challenges.now) (instances_of bs) (fitting_all bs c.requires.0) c.loop-air.sums c.loop-air.air (c.is_nothing.ensures.0 c.if-is_nothing.true) c.loop-air.invariant in
    ((λ e. cc e), (λ has. absurd (none has)))

pub returns : goal.returns
returns g c =
    let laws = g.met.EF.ExtensionField.lawful_fields in
    let table = table_of c.args.challenges.now in
    let bs = c.args.instances.now in
    decided laws table (instances_of bs) (fitting_all bs c.requires.0) c.loop-air.sums c.has_zero.result
    (subst (λ (is : List _). AreSums (of_laws laws).ring (batch_equations (of_laws laws) table is) c.loop-air.sums) (take_all c.loop-air.air (instances_of bs) (omega (arith, length-map bs instance_of, c.loop-air-test.false))) c.loop-air.invariant) c.has_zero.ensures

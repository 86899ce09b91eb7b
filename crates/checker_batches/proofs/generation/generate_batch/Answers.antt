use Rattle.std.proofs.Common.{◌+◌, Some, List, inl, inr, map, sym, ap, subst₂, ◌∙◌, arith}
use Rattle.std.proofs.lemmas.List.{length-map}
use Rattle.std.proofs.lemmas.Option.{slice_get_within}
use Rattle.list_laws.proofs.Images.{mapped_at}
use Rattle.field.specs.laws.Extension.{of_laws}
use Rattle.lookup_model.specs.Terminals.{terminal_sum}
use Rattle.lookup_model.specs.Batches.Instances.{instance_of, instances_of}
use Rattle.lookup_model.specs.Batches.Witnesses.{AirResult}
use Rattle.checker_batches.specs.internal.Results.{HasResults}
use Rattle.lookup_model.specs.Challenges.{table_of}
use Rattle.lookup_model.proofs.Batches.OnlyWitness.{only_witness}
use Rattle.checker_witness.proofs.InstanceLaws.{fitting_all, instance_there}
use Rattle.checker_batches.proofs.ResultLaws.{all_results, results_more}
use Rattle.lookup_model.proofs.Batches.Succeeds.{none_faulty}
use Rattle.lookup_model.proofs.Batches.Totals.{balanced_total}
use Rattle.checker_batches.proofs.generation.generate_batch.Goals as goal

pub returns-in-Err-clause-answer : goal.returns-in-Err-clause-answer
returns-in-Err-clause-answer g c = elim c.of_air.ensures.1 [
  | inl memory ↦ inl memory.1
  | inr other ↦ elim c.in-Err.ensures [
    | inl memory ↦ absurd (other.0 memory)
    | inr fault ↦ inr (record {
      index = c.loop-air.air;
      item = instance_of c.index-instances-air.result;
      is_there = instance_there c.args.instances.now c.loop-air.air c.index-instances-air.result c.loop-air-test.true c.index-instances-air.is;
      before = c.loop-air.invariant.faultless;
      fault = (other.1, fault ∙ ap Some (sym c.of_air.ensures.0));
    })
  ]
]

pub loop-air-preserved : goal.loop-air-preserved
loop-air-preserved g c =
    let instance = c.index-instances-air.result in
    let instances = c.args.instances.now in
    subst₂ (HasResults _ _ (instances_of instances) (c.loop-air.air + 1)) (sym c.in_ok-push-in-Ok.ensures.items) (sym c.in_ok-push-in-Ok-2.ensures.items)
    (results_more (of_laws g.met.EF.ExtensionField.lawful_fields) (table_of c.args.challenges.now) (instances_of instances) c.loop-air.air c.loop-air.aux.items c.loop-air.terminals.items (instance_of instance) (c.in-Ok.trace, c.in-Ok.terminal) (omega (arith, length-map instances instance_of, c.loop-air-test.true))
    (mapped_at instance_of instances c.loop-air.air instance c.loop-air-test.true c.index-instances-air.is) c.in-Ok.ensures.0 c.in-Ok.ensures.1 c.in-Ok.ensures.2 c.loop-air.invariant)

pub returns-clause-satisfied : goal.returns-clause-satisfied
returns-clause-satisfied g c =
    let all = all_results _ _ _ _ _ _ c.loop-air.invariant (omega (arith, length-map c.args.instances.now instance_of, c.loop-air-test.false, c.loop-air.auto.air-end)) in
    (all.1, λ regular other satisfied. only_witness g.met.EF.ExtensionField.lawful_fields _ _ (fitting_all c.args.instances.now c.requires.0) regular.flags regular.denominators other satisfied ∙ sym all.0)

pub returns-clause-balanced : goal.returns-clause-balanced
returns-clause-balanced g c = λ balanced.
    let all = all_results _ _ _ _ _ _ c.loop-air.invariant (omega (arith, length-map c.args.instances.now instance_of, c.loop-air-test.false, c.loop-air.auto.air-end)) in record {
      satisfied = all.1;
      balanced = ap (λ (w : List (AirResult _)). terminal_sum (of_laws g.met.EF.ExtensionField.lawful_fields).ring (map (λ t. t.1) w)) all.0 ∙ balanced_total g.met.EF.ExtensionField.lawful_fields (table_of c.args.challenges.now) _ balanced;
    }

pub returns-in-Err-clause-succeeds : goal.returns-in-Err-clause-succeeds
returns-in-Err-clause-succeeds g c = λ regular. elim c.of_air.ensures.1 [
  | inl memory ↦ memory.1
  | inr other ↦ elim c.in-Err.ensures [
    | inl memory ↦ absurd (other.0 memory)
    | inr fault ↦ absurd (none_faulty g.met.EF.ExtensionField.lawful_fields (table_of c.args.challenges.now) _ regular.flags regular.denominators c.loop-air.air _ c.in-Err.error
        (instance_there c.args.instances.now c.loop-air.air c.index-instances-air.result c.loop-air-test.true c.index-instances-air.is) fault)
  ]
]

pub returns-clause-answer : goal.returns-clause-answer
returns-clause-answer g c =
    let has = c.loop-air.invariant in
    let long = length-map c.args.instances.now instance_of in (
      (all_results _ _ _ _ _ _ has (omega (arith, long, c.loop-air-test.false, c.loop-air.auto.air-end))).0,
      (omega (arith, has.traces, long, c.loop-air-test.false, c.loop-air.auto.air-end), omega (arith, has.as_many, long, c.loop-air-test.false, c.loop-air.auto.air-end)),
      λ i instance there. has.faultless i instance (omega (arith, slice_get_within _ i instance there, long, c.loop-air-test.false)) there,
    )

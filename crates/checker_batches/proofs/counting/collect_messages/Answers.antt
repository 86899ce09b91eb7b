use Rattle.std.proofs.Common.{Some, inl, inr, sym, ap, ◌∙◌, arith}
use Rattle.std.proofs.lemmas.List.{length-map}
use Rattle.list_laws.proofs.Images.{mapped_at}
use Rattle.lookup_model.specs.Batches.Instances.{instance_of, instances_of}
use Rattle.checker_batches.proofs.CountLaws.{all_messages, messages_more}
use Rattle.checker_witness.proofs.InstanceLaws.{instance_there}
use Rattle.checker_batches.proofs.counting.collect_messages.Goals as goal

pub returns-in-Err : goal.returns-in-Err
returns-in-Err g c = elim c.of_air.ensures.1 [
  | inl memory ↦ inl memory.1
  | inr other ↦ elim c.in-Err.ensures [
    | inl memory ↦ absurd (other.0 memory)
    | inr fault ↦ inr (record {
      index = c.loop-air.air;
      item = instance_of c.index-instances-air.result;
      is_there = instance_there c.args.instances.now c.loop-air.air c.index-instances-air.result c.loop-air-test.true c.index-instances-air.is;
      before = c.loop-air.invariant.faultless;
      fault = (other.1, fault ∙ ap Some (sym c.of_air.ensures.0));
    })
  ]
]

pub loop-air-preserved : goal.loop-air-preserved
loop-air-preserved g c =
    let instance = c.index-instances-air.result in
    let instances = c.args.instances.now in
    messages_more g.F.PrimeCharacteristicRing.ring g.F.PartialEq.eq (instances_of instances) c.loop-air.air c.loop-air.messages.items c.push_instance.new.messages.items (instance_of instance) (omega (arith, length-map instances instance_of, c.loop-air-test.true))
    (mapped_at instance_of instances c.loop-air.air instance c.loop-air-test.true c.index-instances-air.is) c.in-Ok.ensures c.loop-air.invariant

pub returns : goal.returns
returns g c = all_messages _ _ _ _ _ c.loop-air.invariant (omega (arith, length-map c.args.instances.now instance_of, c.loop-air-test.false, c.loop-air.auto.air-end))

use Rattle.lookup_model.specs.Batches.Instances.{instances_of}
use Rattle.checker_batches.specs.internal.Collected.{HasMessages}
use Rattle.checker_batches.proofs.counting.collect_messages.Given as goal

abbrev pub invariant-loop-air : goal.invariant-loop-air
invariant-loop-air g l =
    HasMessages g.F.PrimeCharacteristicRing.ring g.F.PartialEq.eq (instances_of l.instances) l.air l.messages.items

use Rattle.std.proofs.Common.{◌≡◌, map, take}
use Rattle.lookup_model.specs.Batches.Ids.{batch_lookups_with_ids}
use Rattle.lookup_model.specs.Batches.Instances.{instances_of}
use Rattle.checker_batches.specs.internal.Identified.{identified_of}
use Rattle.checker_batches.proofs.ids.identified_lookups.Given as goal

abbrev pub invariant-loop-instance : goal.invariant-loop-instance
invariant-loop-instance g l = map identified_of l.all.items ≡ batch_lookups_with_ids (instances_of (take l.instance-index l.instances))

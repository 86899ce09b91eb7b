-- The instances of a batch.
use Rattle.std.proofs.Common.{◌≡◌, ℕ, ◌<◌, Some, List, length, get_or, arith}
use Rattle.std.proofs.lemmas.List.{length-map}
use Rattle.std.proofs.lemmas.List.Elements.{All-map, recursion_from_All}
use Rattle.std.specs.List.{AllByRecursion, slice_get}
use Rattle.list_laws.proofs.Images.{mapped_at}
use Rattle.list_laws.proofs.Items.{item_there}
use Rattle.lookup_model.specs.Batches.Instances.{InstancesFit, IsFitting, instance_of, instances_of}
use Rattle.lookup_model.specs.declared.instance.BatchInstance.{BatchInstance}

-- the instance at an index of a batch
pub instance_there : {F : Type 0} (bs : List (BatchInstance F)) (i : ℕ) (b : BatchInstance F) → i < length bs → b ≡ get_or bs i b → slice_get (instances_of bs) i ≡ Some (instance_of b)
instance_there bs i b lt is =
    item_there (instances_of bs) i (instance_of b) (omega (arith, length-map bs instance_of, lt)) (mapped_at instance_of bs i b lt is)

-- the instances of a batch that fits are fitting, one by one
pub fitting_all : {F : Type 0} (bs : List (BatchInstance F)) → InstancesFit bs → AllByRecursion IsFitting (instances_of bs)
fitting_all bs fit = recursion_from_All IsFitting (instances_of bs) (All-map IsFitting instance_of bs fit)

use Rattle.std.proofs.Common.{refl}
use Rattle.gate_memory.proofs.batches.on_ids.Goals as goal

pub ids_are_lawful-lawful-requires : goal.ids_are_lawful-lawful-requires
ids_are_lawful-lawful-requires c k d lt = (c.if-not-instances_fit.ensures.0 refl k d lt).ids

pub ids_are_lawful-requires : goal.ids_are_lawful-requires
ids_are_lawful-requires c k d lt = (c.if-not-instances_fit.ensures.0 refl k d lt).ids

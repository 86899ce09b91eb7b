use Rattle.std.proofs.Common.{refl}
use Rattle.gate_memory.proofs.batches.on_witness.Goals as goal

pub generate_batch-requires : goal.generate_batch-requires
generate_batch-requires c = c.if-are_ready.ensures refl

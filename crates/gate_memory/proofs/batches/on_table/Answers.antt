use Rattle.std.proofs.Common.{refl}
use Rattle.gate_memory.proofs.batches.on_table.Goals as goal

pub generate_batch-witness-requires : goal.generate_batch-witness-requires
generate_batch-witness-requires c = c.if-are_ready.ensures refl

pub some_witness-accepted-requires : goal.some_witness-accepted-requires
some_witness-accepted-requires c = c.if-are_ready.ensures refl

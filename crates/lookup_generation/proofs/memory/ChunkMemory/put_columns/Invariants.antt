use Rattle.std.proofs.Common.{length}
use Rattle.lookup_generation.proofs.memory.ChunkMemory.put_columns.Given as goal

abbrev pub decreases-loop-branches : goal.decreases-loop-branches
decreases-loop-branches g l = length l.columns.items

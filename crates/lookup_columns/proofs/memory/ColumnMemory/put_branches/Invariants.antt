use Rattle.std.proofs.Common.{length}
use Rattle.lookup_columns.proofs.memory.ColumnMemory.put_branches.Given as goal

abbrev pub decreases-loop-branch : goal.decreases-loop-branch
decreases-loop-branch g l = length l.branches.items

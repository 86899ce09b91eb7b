use Rattle.std.proofs.Common.{length}
use Rattle.lookup_columns.proofs.slots.Slots.clear.Given as goal

abbrev pub decreases-loop-list : goal.decreases-loop-list
decreases-loop-list g l = length l.self.lists.items

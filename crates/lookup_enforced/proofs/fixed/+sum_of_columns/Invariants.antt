use Rattle.std.proofs.Common.{length}
use Rattle.lookup_enforced.proofs.fixed.+sum_of_columns.Given as goal

abbrev pub decreases-sum_of_columns : goal.decreases-sum_of_columns
decreases-sum_of_columns g l = length l.columns.now

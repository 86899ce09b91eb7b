use Rattle.c_tables.specs.Numbers.{AreNumberGroupsBelow}
use Rattle.c_tables.proofs.numbers.first_large_group.Given as goal

abbrev pub invariant-loop-index : goal.invariant-loop-index
invariant-loop-index g l = AreNumberGroupsBelow g.row.P l.index l.groups

use Rattle.c_tables.specs.Numbers.{AreNumbersBelow}
use Rattle.c_tables.proofs.numbers.first_large.Given as goal

abbrev pub invariant-loop-index : goal.invariant-loop-index
invariant-loop-index g l = AreNumbersBelow g.row.P l.index l.numbers

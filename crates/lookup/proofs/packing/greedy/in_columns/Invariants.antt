use Rattle.lookup.proofs.RecordLaws.{AreNumbered}
use Rattle.lookup.proofs.packing.greedy.in_columns.Given as goal

abbrev pub invariant-loop-column : goal.invariant-loop-column
invariant-loop-column g l = AreNumbered l.fn.lookups.items l.lookups.items l.column

use Rattle.lookup_model.specs.Records.{AreRecordsBelow}
use Rattle.lookup_model.proofs.fitting.first_malformed.Given as goal

abbrev pub invariant-loop-column : goal.invariant-loop-column
invariant-loop-column g l = AreRecordsBelow l.column l.lookups

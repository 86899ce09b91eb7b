use Rattle.std.proofs.Common.{sym, ap}
use Rattle.lookup_indexed.specs.Refusal.{declaration_refusal}
use Rattle.lookup_indexed.proofs.error.IndexedLookupErrorFromAirError.from.Goals as goal

pub returns-in-Memory : goal.returns-in-Memory
returns-in-Memory c = ap declaration_refusal (sym c.in-Memory.is)

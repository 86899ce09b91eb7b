use Rattle.std.proofs.Common.{sym, ap}
use Rattle.lookup_model.specs.Refusal.{from_air}
use Rattle.lookup_model.proofs.error.LookupErrorFromAirError.from.Goals as goal

pub returns-in-Memory : goal.returns-in-Memory
returns-in-Memory c = ap from_air (sym c.in-Memory.is)

pub returns-in-DegreeOverflow : goal.returns-in-DegreeOverflow
returns-in-DegreeOverflow c = ap from_air (sym c.in-DegreeOverflow.is)

use Rattle.lookup_indexed.proofs.FaultLaws.{named}
use Rattle.lookup_indexed.proofs.check.empty_payload.Goals as goal

pub returns-in-Ok : goal.returns-in-Ok
returns-in-Ok c = named c.args.table.now _ c.in-Ok.table c.in-Ok.ensures.ok

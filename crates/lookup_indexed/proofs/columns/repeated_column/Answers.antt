use Rattle.lookup_indexed.proofs.FaultLaws.{named}
use Rattle.lookup_indexed.proofs.columns.repeated_column.Goals as goal

pub returns-in-Ok : goal.returns-in-Ok
returns-in-Ok c = named c.args.table.now _ c.in-Ok.table c.in-Ok.ensures.ok

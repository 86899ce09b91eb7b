use Rattle.std.proofs.Common.{arith, inr}
use Rattle.c_tables.proofs.TableLaws.{none_in_text}
use Rattle.c_tables.proofs.tables.bus_at.Goals as goal

pub returns-in-Err : goal.returns-in-Err
returns-in-Err c =
    inr (none_in_text c.args.names.now c.args.record.now c.if-record-eq0.false c.in-Err.ensures.cases.0, (omega arith, record { ordered = c.if-span.false; ends = c.if-span-names.false }, c.in-Err.ensures.cases.0))

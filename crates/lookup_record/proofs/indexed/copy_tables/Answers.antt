use Rattle.field.proofs.Items.{copied_more}
use Rattle.lookup_indexed.specs.Declaration.{declared_table}
use Rattle.lookup_record.proofs.indexed.copy_tables.Goals as goal

pub loop-table-preserved : goal.loop-table-preserved
loop-table-preserved c = rw c.in_ok-push.ensures.items
    (copied_more declared_table c.loop-table.copies.items c.args.tables.now c.loop-table.table-index c.in_ok-copy.field-0 c.table-item.result c.loop-table.invariant c.loop-table-test.true c.table-item.is c.in_ok-copy.ensures)

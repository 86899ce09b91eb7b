use Rattle.field.proofs.Items.{copied_more}
use Rattle.lookup_indexed.specs.Declaration.{read_of}
use Rattle.lookup_record.proofs.indexed.copy_reads.Goals as goal

pub loop-read-preserved : goal.loop-read-preserved
loop-read-preserved c = rw c.in_ok-push.ensures.items
    (copied_more read_of c.loop-read.copies.items c.args.reads.now c.loop-read.read-index c.in_ok-copy.field-0 c.read-item.result c.loop-read.invariant c.loop-read-test.true c.read-item.is c.in_ok-copy.ensures)

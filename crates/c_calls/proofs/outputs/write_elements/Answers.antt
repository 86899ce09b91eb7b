use Rattle.c_calls.proofs.WrittenLaws.{written_none}
use Rattle.c_calls.proofs.outputs.write_elements.Goals as goal

pub loop-index-init : goal.loop-index-init
loop-index-init g c = written_none c.args.cells.now c.args.at

use Rattle.gate_memory.proofs.NonzeroModulo7.{three_nonzero}
use Rattle.gate_memory.proofs.fields.units.Goals as goal

pub returns : goal.returns
returns c = three_nonzero c.new.result c.new-2.result c.new-3.result c.new.ensures c.new-2.ensures c.new-3.ensures

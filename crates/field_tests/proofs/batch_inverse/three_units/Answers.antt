use Rattle.field_tests.proofs.NonzeroModulo7.{three_nonzero}
use Rattle.field_tests.proofs.batch_inverse.three_units.Goals as goal

pub returns : goal.returns
returns c = three_nonzero c.new.result c.new-2.result c.new-3.result c.new.ensures c.new-2.ensures c.new-3.ensures

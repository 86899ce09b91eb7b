use Rattle.std.proofs.Common.{rules}
use Rattle.field_monty.proofs.StoredTests.{test_of}
use Rattle.field_monty.proofs.monty_field.MontyField31PartialEq.eq.Goals as goal

pub returns : goal.returns
returns g c = search (rules, test_of g.K.MontyParameters.positive g.K.MontyParameters.right)

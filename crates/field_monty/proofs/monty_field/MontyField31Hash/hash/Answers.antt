use Rattle.std.proofs.Common.{rules}
use Rattle.field_monty.specs.laws.Montgomery.{stored_again}
use Rattle.field_monty.proofs.monty_field.MontyField31Hash.hash.Goals as goal

pub returns : goal.returns
returns g c = search (rules, stored_again g.K.MontyParameters.positive g.K.MontyParameters.right)

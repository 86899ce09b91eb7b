use Rattle.std.proofs.Common.{arith}
use Rattle.field_monty.proofs.Montgomery.{once_reduced}
use Rattle.field_monty.proofs.monty_field.MontyField31.reduce_once.Goals as goal

pub returns-clause-value : goal.returns-clause-value
returns-clause-value g c =
    let found = c.min.ensures in
    once_reduced g.K.MontyParameters.positive g.K.MontyParameters.right c.args.x c.min.result (λ h. omega arith) (λ h. omega arith)

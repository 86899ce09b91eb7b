use Rattle.std.proofs.Common.{arith}
use Rattle.field_goldilocks.proofs.Reduction.{once_reduced}
use Rattle.field_goldilocks.proofs.goldilocks.reduce_once.Goals as goal

pub returns-clause-value : goal.returns-clause-value
returns-clause-value c =
    let found = c.min.ensures in
    once_reduced c.args.x c.min.result (λ h. omega arith) (λ h. omega arith)

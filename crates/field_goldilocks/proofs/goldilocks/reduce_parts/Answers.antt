use Rattle.std.proofs.Common.{◌∙◌}
use Rattle.field_goldilocks.proofs.Reduction.{parts}
use Rattle.field_goldilocks.proofs.goldilocks.reduce_parts.Goals as goal

pub returns-clause-value : goal.returns-clause-value
returns-clause-value c =
    c.reduce_once.ensures.value
    ∙ parts c.args.low c.args.middle c.args.high c.difference.result c.sum.result c.difference.ensures.borrowing c.difference.ensures.plain c.sum.ensures.carrying c.sum.ensures.plain

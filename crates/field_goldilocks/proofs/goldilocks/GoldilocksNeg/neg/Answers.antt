use Rattle.std.proofs.Common.{ap, ◌-◌, ◌∙◌}
use Rattle.field_goldilocks.specs.Goldilocks.{goldilocks_of}
use Rattle.field_goldilocks.proofs.Reduction.{negated}
use Rattle.field_goldilocks.proofs.goldilocks.GoldilocksNeg.neg.Goals as goal

pub returns : goal.returns
returns c =
    c.stored.ensures
    ∙ (negated c.as_canonical_u64.result c.difference.result c.difference.ensures.borrowing c.difference.ensures.plain c.as_canonical_u64.ensures.below
    ∙ ap (λ x. goldilocks_of (18446744069414584321 - x)) c.as_canonical_u64.ensures.value)

use Rattle.std.proofs.Common.{ap₂, ◌+◌, ◌-◌, ◌%◌, ◌∙◌}
use Rattle.field_goldilocks.specs.Goldilocks.{goldilocks_of}
use Rattle.field_goldilocks.proofs.Reduction.{subtracted}
use Rattle.field_goldilocks.proofs.goldilocks.GoldilocksSub.sub.Goals as goal

pub returns : goal.returns
returns c =
    c.stored.ensures
    ∙ (subtracted c.as_canonical_u64-a.result c.as_canonical_u64-b.result c.difference.result c.as_canonical_u64-b.ensures.below c.difference.ensures.borrowing c.difference.ensures.plain
    ∙ ap₂ (λ x y. goldilocks_of (x + (18446744069414584321 - y) % 18446744069414584321)) c.as_canonical_u64-a.ensures.value c.as_canonical_u64-b.ensures.value)

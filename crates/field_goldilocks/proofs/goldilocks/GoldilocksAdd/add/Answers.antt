use Rattle.std.proofs.Common.{ap₂, ◌+◌, ◌∙◌, arith}
use Rattle.field_goldilocks.specs.Goldilocks.{goldilocks_of}
use Rattle.field_goldilocks.proofs.Reduction.{added}
use Rattle.field_goldilocks.proofs.goldilocks.GoldilocksAdd.add.Goals as goal

pub returns : goal.returns
returns c =
    let below = c.as_canonical_u64-b.ensures.below in
    c.stored.ensures
    ∙ (added c.as_canonical_u64-a.result c.as_canonical_u64-b.result c.difference.result (omega arith) c.difference.ensures.borrowing c.difference.ensures.plain
    ∙ ap₂ (λ x y. goldilocks_of (x + y)) c.as_canonical_u64-a.ensures.value c.as_canonical_u64-b.ensures.value)

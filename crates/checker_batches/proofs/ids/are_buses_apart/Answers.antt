use Rattle.std.proofs.Common.{below_more, refl, arith}
use Rattle.checker_batches.proofs.ids.are_buses_apart.Goals as goal

pub returns-then-not-agrees_with_later : goal.returns-then-not-agrees_with_later
returns-then-not-agrees_with_later g c =
    (λ e. absurd (cc e), λ pairs. cc (c.agrees_with_later.ensures.1 (λ j d before below. pairs c.loop-index.index j d before below), c.if-not-agrees_with_later.true))

pub loop-index-preserved : goal.loop-index-preserved
loop-index-preserved g c = below_more _ _ c.loop-index.invariant (c.agrees_with_later.ensures.0 (cc c.if-not-agrees_with_later.false))

pub returns : goal.returns
returns g c =
    (λ _ i j d before below. c.loop-index.invariant i (omega (arith, before, below, c.loop-index-test.false)) j d before below, λ _. refl)

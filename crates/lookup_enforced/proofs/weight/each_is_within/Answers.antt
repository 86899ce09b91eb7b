use Rattle.std.proofs.Common.{◌≤◌, ℕ, Bool, Option, List, All, subst, refl}
use Rattle.lookup_enforced.specs.Weights.{HasBound, query_bound}
use Rattle.lookup_enforced.proofs.BoundLaws.{at_end, here, one_more}
use Rattle.lookup_enforced.proofs.weight.each_is_within.Goals as goal

-- a query has a bound within the weight
abbrev Within : ℕ → Option ℕ × Bool → Type 0
Within weight b = HasBound b × (query_bound b ≤ weight)

pub returns-then-not-is_within : goal.returns-then-not-is_within
returns-then-not-is_within c =
    (λ e. cc, λ all. absurd (let t = c.is_within.ensures.1 (here c.args.bounds.now c.args.queries.now c.requires c.loop-at.at c.loop-at-test.true (Within c.args.weight) all) in cc))

pub loop-at-preserved : goal.loop-at-preserved
loop-at-preserved c =
    one_more c.args.bounds.now c.args.queries.now c.requires c.loop-at.at c.loop-at-test.true (Within c.args.weight) c.loop-at.invariant (c.is_within.ensures.0 c.if-not-is_within.false)

pub returns : goal.returns
returns c =
    (λ e. subst (λ (bs : List (Option ℕ × Bool)). All (Within c.args.weight) bs) (at_end c.args.bounds.now c.args.queries.now c.requires c.loop-at.at c.loop-at-test.false) c.loop-at.invariant, λ all. refl)

use Rattle.std.proofs.Common.{◌≡◌, ◌+◌, ℕ, Bool, Option, List, All, refl, subst, arith}
use Rattle.std.specs.List.{sum_by}
use Rattle.lookup_enforced.specs.Weights.{HasBound, query_bound}
use Rattle.lookup_enforced.proofs.BoundLaws.{at_end, here, one_more, sum_more, sum_within}
use Rattle.lookup_enforced.proofs.weight.all_are_within.Goals as goal

pub returns-in_default : goal.returns-in_default
returns-in_default c =
    (λ e. cc, λ all. absurd (c.in_default.ensures (here c.args.bounds.now c.args.queries.now c.requires c.loop-at.at c.loop-at-test.true HasBound all.0)))

pub returns-then-bound-left : goal.returns-then-bound-left
returns-then-bound-left c =
    (λ e. cc, λ all. absurd (omega (arith, c.in-Some.ensures.1, c.loop-at.invariant.1, c.if-bound-left.true, all.1, sum_within c.args.bounds.now c.args.queries.now c.requires c.loop-at.at c.loop-at-test.true)))

pub loop-at-preserved : goal.loop-at-preserved
loop-at-preserved c = (
  one_more c.args.bounds.now c.args.queries.now c.requires c.loop-at.at c.loop-at-test.true HasBound c.loop-at.invariant.0 c.in-Some.ensures.0,
  omega (arith, c.in-Some.ensures.1, c.loop-at.invariant.1, c.if-bound-left.false, sum_more c.args.bounds.now c.args.queries.now c.requires c.loop-at.at c.loop-at-test.true),
)

pub returns : goal.returns
returns c =
    let e = at_end c.args.bounds.now c.args.queries.now c.requires c.loop-at.at c.loop-at-test.false in
    (λ t. (subst (λ (bs : List (Option ℕ × Bool)). All HasBound bs) e c.loop-at.invariant.0, omega (arith, c.loop-at.invariant.1, subst (λ (bs : List (Option ℕ × Bool)). sum_by query_bound bs + c.loop-at.left ≡ c.args.weight) e c.loop-at.invariant.1)), λ all. refl)

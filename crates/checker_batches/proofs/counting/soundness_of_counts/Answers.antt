use Rattle.std.proofs.Common.{◌≡◌, ◌+◌, ◌-◌, ◌<◌, ℕ, Option, MatchOption, refl, subst, sym, arith}
use Rattle.checker_batches.proofs.CountLaws.{bound_fits, bound_is_large}
use Rattle.checker_batches.proofs.counting.soundness_of_counts.Goals.{then-unbalanced-eq0, else-unbalanced-eq0}
use Rattle.checker_batches.proofs.counting.soundness_of_counts.Goals as goal

pub returns-in_default : goal.returns-in_default
returns-in_default c = (
  refl,
  refl,
  bound_is_large c.args.width c.args.unbalanced c.saturating_sub.result c.checked_mul.result c.in_default.is c.saturating_sub.ensures c.checked_mul.ensures,
)

pub returns : goal.returns
returns c =
    let k = c.args.unbalanced in
    let Right = λ (o : Option ℕ). MatchOption o (k ≡ 0) (λ most. (0 < k) × (most ≡ c.args.keys + k - 1)) in (
      refl,
      refl,
      bound_fits c.args.width k c.saturating_sub.result c.in-Some.bad_betas _ c.checked_mul.result c.in-Some.is c.saturating_sub.ensures c.checked_mul.ensures,
      elim c.if-unbalanced-eq0.branch [
        | then-unbalanced-eq0 w ↦ subst Right (sym w.accepting_alphas-is) (omega (arith, w.if-unbalanced-eq0.true))
        | else-unbalanced-eq0 w ↦ subst Right (sym w.accepting_alphas-is) (omega (arith, w.if-unbalanced-eq0.false), refl)
      ],
    )

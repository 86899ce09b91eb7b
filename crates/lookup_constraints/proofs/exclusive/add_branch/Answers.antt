use Rattle.std.proofs.lemmas.Result.{MatchResult-weaker}
use Rattle.lookup_constraints.proofs.Meanings.{plus_branch_on}
use Rattle.lookup_constraints.proofs.exclusive.add_branch.Goals as goal

pub returns : goal.returns
returns g c =
    MatchResult-weaker c.select.result c.select.ensures
    (λ r is. plus_branch_on g.AB.EF.PrimeCharacteristicRing.ring g.AB.ExprEF.Expression.value g.AB.ExprEF.Expression.degree g.AB.ExtensionBuilder.seen_ext (g.AB.ExtensionBuilder.stands_for_ext c.args.row.now.builder.now) _ _ c.in_ok-numerator.numerator c.in_ok-denominator.denominator c.in_ok-numerator.ensures c.in_ok-denominator.ensures _ c.in_ok-flag.flag c.in_ok-flag.ensures c.args.selection r is) (λ e none. none)

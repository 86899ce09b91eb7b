use Rattle.std.proofs.lemmas.Result.{MatchResult-weaker}
use Rattle.lookup_constraints.proofs.Meanings.{plus_fraction_on}
use Rattle.lookup_constraints.proofs.additive.add_tuple.Goals as goal

pub returns : goal.returns
returns g c =
    MatchResult-weaker c.add_fraction.result c.add_fraction.ensures
    (λ r is. plus_fraction_on g.AB.EF.PrimeCharacteristicRing.ring g.AB.ExprEF.Expression.value g.AB.ExprEF.Expression.degree g.AB.ExtensionBuilder.seen_ext (g.AB.ExtensionBuilder.stands_for_ext c.args.row.now.builder.now) _ _ c.in_ok-numerator.numerator c.in_ok-denominator.denominator c.in_ok-numerator.ensures c.in_ok-denominator.ensures c.args.quotient r is) (λ e none. none)

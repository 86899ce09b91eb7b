use Rattle.std.proofs.lemmas.Result.{MatchResult-weaker}
use Rattle.lookup_constraints.proofs.Meanings.{selected_quotient_on}
use Rattle.lookup_constraints.proofs.exclusive.exclusive_quotient.Goals as goal

pub returns : goal.returns
returns g c =
    MatchResult-weaker c.selected_quotient.result c.selected_quotient.ensures.means
    (λ r is. selected_quotient_on g.AB.EF.PrimeCharacteristicRing.ring g.AB.ExprEF.Expression.value g.AB.ExprEF.Expression.degree g.AB.ExtensionBuilder.seen_ext (g.AB.ExtensionBuilder.stands_for_ext c.args.row.now.builder.now) _ c.in_ok-selection.selection r c.in_ok-selection.ensures is) (λ e none. none)

use Rattle.std.proofs.Common.{List, Option, sym, subst}
use Rattle.std.proofs.lemmas.Result.{MatchResult-weaker}
use Rattle.std.specs.Option.{IfSome}
use Rattle.field.specs.laws.Extension.{of_laws}
use Rattle.air_expressions.specs.declared.base_expression.SymbolicExpression.{SymbolicExpression}
use Rattle.lookup_constraints.proofs.Quotients.{quotient_with_flags, quotient_without_flags}
use Rattle.lookup_constraints.proofs.fraction.quotient_of.Goals as goal
use Rattle.lookup_model.specs.Records.{AllFit, IsWithin}

pub returns-in-None : goal.returns-in-None
returns-in-None g c =
    MatchResult-weaker c.additive_quotient.result c.additive_quotient.ensures
    (λ r is. quotient_without_flags _ (of_laws g.met.AB.EF.ExtensionField.lawful_fields) c.args.builder.now c.args.lookup.now r c.in-None.is is) (λ e none. none)

pub exclusive_quotient-requires-clause-flags_fit :
    goal.exclusive_quotient-requires-clause-flags_fit
unfolding IsWithin
exclusive_quotient-requires-clause-flags_fit g c =
    let layout = g.AB.AirBuilder.layout c.args.builder.now in
    subst (λ (es : List (SymbolicExpression _)). AllFit layout es) (sym c.deref.ensures.value) (subst (λ (o : Option _). IfSome o (λ flags. AllFit layout flags.items)) c.in-Some.is c.requires.fits.2)

pub returns : goal.returns
returns g c =
    MatchResult-weaker c.exclusive_quotient.result c.exclusive_quotient.ensures
    (λ r is. quotient_with_flags _ (of_laws g.met.AB.EF.ExtensionField.lawful_fields) c.args.builder.now c.args.lookup.now r _ c.in-Some.is _ c.deref.ensures.value is) (λ e none. none)

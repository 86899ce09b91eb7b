use Rattle.std.proofs.Common.{◌≡◌, IfSome, List, Option, Some, sym, ap, subst, ◌∙◌}
use Rattle.std.proofs.lemmas.Result.{IfOk-weaker}
use Rattle.std.specs.List.{AllZip}
use Rattle.air_expressions.specs.declared.base_expression.SymbolicExpression.{SymbolicExpression}
use Rattle.lookup_columns.specs.Steps.{AreStepsOf}
use Rattle.lookup_columns.specs.ChunkColumns.{StoreSelected, key_denominator_over}
use Rattle.lookup_model.specs.Records.{AllFit, IsWithin}
use Rattle.lookup_model.specs.Sent.{branches_at, values}
use Rattle.air.specs.Traces.{layout_of, traces_of, window_of}
use Rattle.lookup_columns.proofs.branches.columns_of_lookup.Goals as goal

pub exclusive_columns-requires-clause-flags_fit : goal.exclusive_columns-requires-clause-flags_fit
unfolding IsWithin
exclusive_columns-requires-clause-flags_fit g c =
    let layout = layout_of (traces_of c.args.inputs.now.traces.now) in
    subst (λ (es : List (SymbolicExpression _)). AllFit layout es) (sym c.deref.ensures.value) (subst (λ (o : Option _). IfSome o (λ flags. AllFit layout flags.items)) c.in-Some.is c.requires.within.2)

pub exclusive_columns-requires-clause-flag_steps : goal.exclusive_columns-requires-clause-flag_steps
exclusive_columns-requires-clause-flag_steps g c =
    let steps = c.args.steps.now.flags.items in
    subst (λ (es : List (SymbolicExpression _)). AllZip AreStepsOf steps es) (sym c.deref.ensures.value) (subst (λ (o : Option _). IfSome o (λ flags. AllZip AreStepsOf steps flags.items)) c.in-Some.is c.requires.steps.flags)

pub returns-in-None : goal.returns-in-None
returns-in-None g c =
    IfOk-weaker c.additive_columns.result _ _
    (λ v are index r there. record {
      additive = λ none. are index r there;
      exclusive = λ flags some. absurd (cc (sym c.in-None.is ∙ some));
    }) c.additive_columns.ensures

pub returns-in-Some : goal.returns-in-Some
returns-in-Some g c =
    let R = g.F.PrimeCharacteristicRing.ring in
    let D = key_denominator_over g.EF.PrimeCharacteristicRing.ring g.EF.ExtensionDomain.embed c.args.inputs.now.challenges.now in
    let lookup = c.args.lookup.now in
    let windows = window_of (traces_of c.args.inputs.now.traces.now) in
    IfOk-weaker c.exclusive_columns.result _ _
    (λ v are index r there. record {
      additive = λ none. absurd (cc (sym none ∙ c.in-Some.is));
      exclusive = λ flags some.
          let is : Some c.in-Some.flags ≡ Some flags = sym c.in-Some.is ∙ some in
          let same : c.in-Some.flags ≡ flags = cc is in
          subst (λ (es : List (SymbolicExpression _)). StoreSelected R D index v.items (values R (windows r) es) (branches_at R (windows r) lookup.column lookup)) (c.deref.ensures.value ∙ ap (λ t. t.items) same) (are index r there);
    }) c.exclusive_columns.ensures

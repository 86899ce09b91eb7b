use Rattle.std.proofs.Common.{Option, IfSome, List, None, Some, length, refl, ap, subst, sym, ◌∙◌}
use Rattle.std.specs.Option.{option_map}
use Rattle.std.specs.declared.alloc.Global.{Global}
use Rattle.std.specs.declared.vec.Vec.{Vec}
use Rattle.air_expressions.specs.declared.base_expression.SymbolicExpression.{SymbolicExpression}
use Rattle.field.specs.laws.Extension.{of_laws}
use Rattle.lookup_model.specs.Denominators.{tuple_denominator}
use Rattle.lookup_model.specs.Records.{AllFit, IsWithin}
use Rattle.lookup_model.specs.Sent.{branches_at, flags_at, values}
use Rattle.checker_witness.proofs.FractionLaws.{fraction_decides}
use Rattle.checker_witness.specs.internal.TraceRows.{trace_layout, trace_window}
use Rattle.checker_witness.proofs.few_rows.fraction_holds_on.Goals as goal

pub returns-in-None : goal.returns-in-None
returns-in-None g c =
    let E = of_laws g.met.EF.ExtensionField.lawful_fields in
    let w = trace_window c.args.row.now in
    let lookup = c.args.lookup.now in
    fraction_decides E g.EF.PrimeCharacteristicRing.lawful (tuple_denominator E c.args.alpha c.args.beta) None (branches_at E.base w lookup.column lookup) c.additive_quotient_on.result c.additive_quotient_on.ensures
    c.args.fraction (flags_at E.base w lookup) c.args.fraction (ap (option_map (λ (fs : Vec (SymbolicExpression _) Global). values E.base w fs.items)) c.in-None.is) refl c.is_satisfied.ensures

pub exclusive_quotient_on-quotient-requires-clause-flag_number :
    goal.exclusive_quotient_on-quotient-requires-clause-flag_number
exclusive_quotient_on-quotient-requires-clause-flag_number g c =
    ap length c.deref.ensures.value ∙ c.requires.lengths.flags _ c.in-Some.is

pub exclusive_quotient_on-quotient-requires-clause-flags_fit :
    goal.exclusive_quotient_on-quotient-requires-clause-flags_fit
unfolding IsWithin
exclusive_quotient_on-quotient-requires-clause-flags_fit g c =
    let layout = trace_layout c.args.row.now in
    subst (λ (es : List (SymbolicExpression _)). AllFit layout es) (sym c.deref.ensures.value) (subst (λ (o : Option _). IfSome o (λ flags. AllFit layout flags.items)) c.in-Some.is c.requires.within.2)

pub returns-in-Some : goal.returns-in-Some
returns-in-Some g c =
    let E = of_laws g.met.EF.ExtensionField.lawful_fields in
    let w = trace_window c.args.row.now in
    let lookup = c.args.lookup.now in
    fraction_decides E g.EF.PrimeCharacteristicRing.lawful (tuple_denominator E c.args.alpha c.args.beta) (Some (values E.base w c.deref.result.now)) (branches_at E.base w lookup.column lookup) c.exclusive_quotient_on-quotient.result c.exclusive_quotient_on-quotient.ensures
    c.args.fraction (flags_at E.base w lookup) c.args.fraction
    (ap (option_map (λ (fs : Vec (SymbolicExpression _) Global). values E.base w fs.items)) c.in-Some.is ∙ ap (λ es. Some (values E.base w es)) (sym c.deref.ensures.value)) refl c.is_satisfied-in-Some.ensures

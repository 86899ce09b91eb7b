use Rattle.std.proofs.Common.{◌+◌, None, Some, slice_index_or, ap, ◌∙◌, arith}
use Rattle.std.proofs.lemmas.List.{get_or_read}
use Rattle.std.specs.List.{zip}
use Rattle.std.specs.Option.{option_map}
use Rattle.std.specs.declared.alloc.Global.{Global}
use Rattle.std.specs.declared.vec.Vec.{Vec}
use Rattle.air.specs.Row.{input_window}
use Rattle.air_expressions.specs.declared.base_expression.SymbolicExpression.{SymbolicExpression}
use Rattle.lookup_columns.specs.ChunkColumns.{key_denominator_over}
use Rattle.lookup_model.specs.Constraints.{fraction_at}
use Rattle.lookup_model.specs.Denominators.{column_denominator}
use Rattle.field.specs.laws.Extension.{of_laws}
use Rattle.lookup_model.specs.Sent.{branches_at, flags_at, values}
use Rattle.checker_witness.proofs.FractionLaws.{fraction_decides, held_over, selected_over}
use Rattle.checker_witness.proofs.fractions.fraction_holds.Goals as goal

pub additive_quotient-requires : goal.additive_quotient-requires
additive_quotient-requires g c =
    let lookup = c.args.lookup.now in
    let w = (input_window c.args.inputs.now c.args.row).base in
    (key_denominator_over g.EF.PrimeCharacteristicRing.ring g.EF.ExtensionDomain.embed c.args.inputs.now.challenges.now, branches_at g.F.PrimeCharacteristicRing.ring w lookup.column lookup, c.requires.columns.additive c.in-None.is)

pub exclusive_quotient-requires : goal.exclusive_quotient-requires
exclusive_quotient-requires g c =
    let R = g.F.PrimeCharacteristicRing.ring in
    let lookup = c.args.lookup.now in
    let w = (input_window c.args.inputs.now c.args.row).base in
    (key_denominator_over g.EF.PrimeCharacteristicRing.ring g.EF.ExtensionDomain.embed c.args.inputs.now.challenges.now, values R w c.in-Some.field-0.items, branches_at R w lookup.column lookup, c.requires.columns.exclusive c.in-Some.field-0 c.in-Some.is)

pub returns-in-None : goal.returns-in-None
returns-in-None g c =
    let E = of_laws g.met.EF.ExtensionField.lawful_fields in
    let lookup = c.args.lookup.now in
    let challenges = c.args.inputs.now.challenges.now in
    let window = input_window c.args.inputs.now c.args.row in
    let messages = branches_at E.base window.base lookup.column lookup in
    let over = column_denominator E challenges lookup.column in
    fraction_decides E g.EF.PrimeCharacteristicRing.lawful over (None) messages c.additive_quotient.result
    (c.additive_quotient.ensures over messages (held_over E challenges lookup.column window.base c.args.index c.args.columns.now (zip lookup.elements.items lookup.multiplicities.items) (c.requires.columns.additive c.in-None.is)))
    c.index-row_slice-lookup.result (flags_at E.base window.base lookup) (fraction_at E lookup.column window) (ap (option_map (λ (fs : Vec (SymbolicExpression _) Global). values E.base window.base fs.items)) c.in-None.is)
    (get_or_read c.row_slice.result.now (lookup.column + 1) c.index-row_slice-lookup.result (omega (arith, c.row_slice.ensures.len, c.requires.cell)) c.index-row_slice-lookup.is E.ring.zero ∙ ap (λ xs. slice_index_or xs (lookup.column + 1) E.ring.zero) c.row_slice.ensures.row)
    c.is_satisfied.ensures

pub returns-in-Some : goal.returns-in-Some
returns-in-Some g c =
    let E = of_laws g.met.EF.ExtensionField.lawful_fields in
    let lookup = c.args.lookup.now in
    let challenges = c.args.inputs.now.challenges.now in
    let window = input_window c.args.inputs.now c.args.row in
    let messages = branches_at E.base window.base lookup.column lookup in
    let over = column_denominator E challenges lookup.column in
    let branches = zip lookup.elements.items lookup.multiplicities.items in
    let flags = values E.base window.base c.in-Some.field-0.items in
    fraction_decides E g.EF.PrimeCharacteristicRing.lawful over (Some flags) messages c.exclusive_quotient.result
    (c.exclusive_quotient.ensures over flags messages (selected_over E challenges lookup.column window.base c.args.index c.args.columns.now flags branches (c.requires.columns.exclusive c.in-Some.field-0 c.in-Some.is)))
    c.index-row_slice-lookup.result (flags_at E.base window.base lookup) (fraction_at E lookup.column window) (ap (option_map (λ (fs : Vec (SymbolicExpression _) Global). values E.base window.base fs.items)) c.in-Some.is)
    (get_or_read c.row_slice.result.now (lookup.column + 1) c.index-row_slice-lookup.result (omega (arith, c.row_slice.ensures.len, c.requires.cell)) c.index-row_slice-lookup.is E.ring.zero ∙ ap (λ xs. slice_index_or xs (lookup.column + 1) E.ring.zero) c.row_slice.ensures.row)
    c.is_satisfied-in-Some.ensures

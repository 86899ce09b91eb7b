use Rattle.std.proofs.Common.{◌-◌, ◌+◌, ◌<◌, ◌≤◌, ℕ, ap, arith}
use Rattle.std.proofs.lemmas.Result.{IfOk-weaker}
use Rattle.std.specs.List.{zip}
use Rattle.std.specs.Option.{option_map}
use Rattle.std.specs.declared.alloc.Global.{Global}
use Rattle.std.specs.declared.vec.Vec.{Vec}
use Rattle.air.specs.Row.{input_window}
use Rattle.air_expressions.specs.declared.base_expression.SymbolicExpression.{SymbolicExpression}
use Rattle.field.specs.laws.Extension.{of_laws}
use Rattle.lookup_model.specs.Denominators.{column_denominator}
use Rattle.lookup_model.specs.Sent.{branches_at, flags_at, values}
use Rattle.checker_witness.proofs.FractionLaws.{held_over}
use Rattle.checker_witness.proofs.ProductLaws.{long_enough, none_from, only_item, product_decides, within_one}
use Rattle.checker_witness.proofs.UntilLaws.{same_within}
use Rattle.checker_witness.specs.Ranges.{HoldsUntil}
use Rattle.checker_witness.specs.internal.Products.{HasMultiplicity}
use Rattle.checker_witness.specs.internal.Rows.{FractionHolds}
use Rattle.checker_witness.proofs.products.lookup_holds_until.Goals as goal

pub tuple_holds_until-requires-clause-multiplicities :
    goal.tuple_holds_until-requires-clause-multiplicities
tuple_holds_until-requires-clause-multiplicities g c =
    let first = c.args.first in
    let branch = c.index-columns-0.result in
    let no_flags = none_from c.args.lookup.now.flags c.is_none.result c.is_none.ensures c.if-is_none.true in
    let are = only_item c.args.columns.now branch c.if-columns-eq1.true c.index-columns-0.is in
    long_enough (c.args.end - first) branch.multiplicities.items
    (λ k lt. omega (arith, (within_one _ (first + k - first) c.args.columns.now branch _ are ((c.requires.columns (first + k) (omega arith) (omega (arith, lt))).additive no_flags)).0))

pub tuple_holds_until-requires-clause-denominators :
    goal.tuple_holds_until-requires-clause-denominators
tuple_holds_until-requires-clause-denominators g c =
    let first = c.args.first in
    let branch = c.index-columns-0.result in
    let no_flags = none_from c.args.lookup.now.flags c.is_none.result c.is_none.ensures c.if-is_none.true in
    let are = only_item c.args.columns.now branch c.if-columns-eq1.true c.index-columns-0.is in
    long_enough (c.args.end - first) branch.denominators.items
    (λ k lt. omega (arith, (within_one _ (first + k - first) c.args.columns.now branch _ are ((c.requires.columns (first + k) (omega arith) (omega (arith, lt))).additive no_flags)).1))

pub returns-then-columns-eq1 : goal.returns-then-columns-eq1
returns-then-columns-eq1 g c =
    let E = of_laws g.met.EF.ExtensionField.lawful_fields in
    let inputs = c.args.inputs.now in
    let lookup = c.args.lookup.now in
    let challenges = inputs.challenges.now in
    let branch = c.index-columns-0.result in
    let no_flags = none_from lookup.flags c.is_none.result c.is_none.ensures c.if-is_none.true in
    let are = only_item c.args.columns.now branch c.if-columns-eq1.true c.index-columns-0.is in
    let same = λ (row : ℕ) (low : c.args.first ≤ row) (high : row < c.args.end).
    let window = input_window inputs row in
    product_decides E g.EF.PrimeCharacteristicRing.lawful (column_denominator E challenges lookup.column) (row - c.args.first) c.args.columns.now branch (branches_at E.base window.base lookup.column lookup) (flags_at E.base window.base lookup) _ are
    (ap (option_map (λ (fs : Vec (SymbolicExpression _) Global). values E.base window.base fs.items)) no_flags)
    (held_over E challenges lookup.column window.base (row - c.args.first) c.args.columns.now (zip lookup.elements.items lookup.multiplicities.items) ((c.requires.columns row low high).additive no_flags)) in
    IfOk-weaker c.tuple_holds_until.result (HoldsUntil (HasMultiplicity E.base E.ring E.embed branch inputs.permutation.now lookup.column c.args.first) c.args.first c.args.end) (HoldsUntil (FractionHolds E inputs lookup) c.args.first c.args.end)
    (λ until h. same_within (λ s low high. (same s low high).0) (λ s low high. (same s low high).1) until h)
    c.tuple_holds_until.ensures

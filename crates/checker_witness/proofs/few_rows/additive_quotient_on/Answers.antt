use Rattle.std.proofs.Common.{◌≡◌, ◌<◌, ◌∷◌, [], List, None, length, take, ap, subst, sym, ◌∙◌, arith}
use Rattle.std.proofs.lemmas.Bool.{eqb-false}
use Rattle.std.proofs.lemmas.List.{take_all}
use Rattle.field.specs.laws.Extension.{of_laws}
use Rattle.lookup_constraints.specs.declared.quotient.Quotient.{Quotient}
use Rattle.lookup_model.proofs.Branches.{branches_more, length-branches_at}
use Rattle.lookup_model.proofs.RecordLaws.{multiplicity_fits, tuple_fits}
use Rattle.lookup_model.specs.Denominators.{tuple_denominator}
use Rattle.lookup_model.specs.Message.{Message}
use Rattle.lookup_model.specs.Sent.{branch_at, branches_at, values}
use Rattle.checker_witness.specs.internal.Quotients.{IsQuotientOf}
use Rattle.checker_witness.specs.internal.TraceRows.{trace_layout, trace_window}
use Rattle.checker_witness.proofs.QuotientSteps.{of_one, with_one_more}
use Rattle.checker_witness.proofs.few_rows.additive_quotient_on.Goals as goal

pub value_of-requires : goal.value_of-requires
value_of-requires g c =
    multiplicity_fits (trace_layout c.args.row.now) c.args.lookup.now c.requires.within c.requires.lengths 0 _ (omega (arith, eqb-false _ 0 (sym c.is_empty.ensures ∙ c.if-is_empty.false))) c.index.ensures

pub denominator_on-requires : goal.denominator_on-requires
denominator_on-requires g c =
    tuple_fits (trace_layout c.args.row.now) c.args.lookup.now c.requires.within 0 c.index-2.result.now _ (omega (arith, eqb-false _ 0 (sym c.is_empty.ensures ∙ c.if-is_empty.false))) c.index-2.ensures c.deref.ensures.value

pub loop-branch-init : goal.loop-branch-init
loop-branch-init g c =
    let E = of_laws g.met.EF.ExtensionField.lawful_fields in
    let w = trace_window c.args.row.now in
    let lookup = c.args.lookup.now in
    let over = tuple_denominator E c.args.alpha c.args.beta in
    let m = branch_at E.base w lookup.column c.index-2.result.now.items c.index.result.now in
    let q : Quotient _ = record { numerator = c.embed.result; denominator = c.denominator_on.result } in
    let some : 0 < length lookup.elements.items = omega (arith, eqb-false _ 0 (sym c.is_empty.ensures ∙ c.if-is_empty.false)) in
    let first : take 1 (branches_at E.base w lookup.column lookup) ≡ m ∷ [] = branches_more E.base w lookup.column lookup c.requires.lengths 0 c.index-2.result.now c.index.result.now some c.index-2.ensures c.index.ensures in
    subst (λ (ms : List (Message _)). IsQuotientOf E over None ms q) (sym first)
    (of_one E g.EF.PrimeCharacteristicRing.lawful over m q (c.embed.ensures ∙ ap E.embed c.value_of.ensures) (c.denominator_on.ensures ∙ ap (λ es. over (values E.base w es)) c.deref.ensures.value))

pub value_of-multiplicity-requires : goal.value_of-multiplicity-requires
value_of-multiplicity-requires g c =
    multiplicity_fits (trace_layout c.args.row.now) c.args.lookup.now c.requires.within c.requires.lengths c.loop-branch.branch _ (omega arith) c.index-in-loop-branch.ensures

pub denominator_on-denominator-requires : goal.denominator_on-denominator-requires
denominator_on-denominator-requires g c =
    tuple_fits (trace_layout c.args.row.now) c.args.lookup.now c.requires.within c.loop-branch.branch c.index-in-loop-branch-2.result.now _ (omega arith) c.index-in-loop-branch-2.ensures c.deref-in-loop-branch.ensures.value

pub loop-branch-preserved : goal.loop-branch-preserved
loop-branch-preserved g c =
    let E = of_laws g.met.EF.ExtensionField.lawful_fields in
    let w = trace_window c.args.row.now in
    let lookup = c.args.lookup.now in
    let over = tuple_denominator E c.args.alpha c.args.beta in
    let i = c.loop-branch.branch in
    let tuple = c.index-in-loop-branch-2.result.now in
    let multiplicity = c.index-in-loop-branch.result.now in
    let m = branch_at E.base w lookup.column tuple.items multiplicity in
    let next = c.with_branch-quotient.result in
    let more = branches_more E.base w lookup.column lookup c.requires.lengths i tuple multiplicity (omega arith) c.index-in-loop-branch-2.ensures c.index-in-loop-branch.ensures in
    subst (λ (ms : List (Message _)). IsQuotientOf E over None ms next) (sym more)
    (with_one_more E g.EF.PrimeCharacteristicRing.lawful over (take i (branches_at E.base w lookup.column lookup)) m c.loop-branch.quotient next c.value_of-multiplicity.result c.denominator_on-denominator.result
    c.value_of-multiplicity.ensures (c.denominator_on-denominator.ensures ∙ ap (λ es. over (values E.base w es)) c.deref-in-loop-branch.ensures.value)
    c.loop-branch.invariant c.with_branch-quotient.ensures.numerator c.with_branch-quotient.ensures.denominator)

pub returns : goal.returns
returns g c =
    let E = of_laws g.met.EF.ExtensionField.lawful_fields in
    let w = trace_window c.args.row.now in
    let lookup = c.args.lookup.now in
    let branches = branches_at E.base w lookup.column lookup in
    subst (λ (ms : List (Message _)). IsQuotientOf E (tuple_denominator E c.args.alpha c.args.beta) None ms c.loop-branch.quotient)
    (take_all c.loop-branch.branch branches (omega (arith, length-branches_at E.base w lookup.column lookup c.requires.lengths, c.loop-branch-test.false, c.len-branch-end.ensures))) c.loop-branch.invariant

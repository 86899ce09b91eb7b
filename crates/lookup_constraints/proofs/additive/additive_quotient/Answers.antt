use Rattle.std.proofs.Common.{List, sym, arith, subst}
use Rattle.list_laws.proofs.Each.{All-at}
use Rattle.field.specs.laws.Extension.{of_laws}
use Rattle.air_expressions.specs.declared.base_expression.SymbolicExpression.{SymbolicExpression}
use Rattle.lookup_constraints.proofs.Quotients.{additive_all, additive_more}
use Rattle.lookup_constraints.proofs.additive.additive_quotient.Goals as goal
use Rattle.lookup_model.specs.Records.{AllFit, IsWithin}
use Rattle.lookup_model.proofs.RecordLaws.{Fits-at}

pub add_tuple-requires-clause-tuple_fits : goal.add_tuple-requires-clause-tuple_fits
unfolding IsWithin
add_tuple-requires-clause-tuple_fits g c =
    let layout = g.AB.AirBuilder.layout c.args.row.now.builder.now in
    let lookup = c.args.row.now.lookup.now in
    subst (λ (t : List (SymbolicExpression _)). AllFit layout t) (sym c.deref.ensures.value) (All-at (λ tuple. AllFit layout tuple.items) lookup.elements.items c.loop-branch.branch c.index-tuple.result.now c.requires.row.within.0 (omega arith) c.index-tuple.ensures)

pub add_tuple-requires-clause-multiplicity_fits : goal.add_tuple-requires-clause-multiplicity_fits
unfolding IsWithin
add_tuple-requires-clause-multiplicity_fits g c =
    Fits-at (g.AB.AirBuilder.layout c.args.row.now.builder.now) c.args.row.now.lookup.now.multiplicities.items c.loop-branch.branch _ c.requires.row.within.1 (omega (arith, c.requires.lengths.multiplicities)) c.index-multiplicity.ensures

pub loop-branch-init : goal.loop-branch-init
loop-branch-init g c =
    let zero = c.zero_quotient-quotient.ensures in
    let seen = g.AB.ExtensionBuilder.seen_ext in record {
      numerator = record { means = λ w stands. zero.numerator.means (seen w); within = λ t. omega (arith, zero.numerator.degree_is t) };
      denominator = record { means = λ w stands. zero.denominator.means (seen w); within = λ t. omega (arith, zero.denominator.degree_is t) };
    }

pub loop-branch-preserved : goal.loop-branch-preserved
loop-branch-preserved g c =
    let added = rw c.deref.ensures.value at c.in_ok-quotient.ensures in
    additive_more (of_laws g.met.AB.EF.ExtensionField.lawful_fields) g.AB.EF.PrimeCharacteristicRing.lawful _ _ _ c.args.row.now.lookup.now c.requires.lengths c.loop-branch.branch c.index-tuple.result.now c.index-multiplicity.result.now (omega arith) c.index-tuple.ensures c.index-multiplicity.ensures c.loop-branch.quotient c.in_ok-quotient.quotient c.loop-branch.invariant added

pub returns : goal.returns
returns g c =
    additive_all (of_laws g.met.AB.EF.ExtensionField.lawful_fields) g.AB.EF.PrimeCharacteristicRing.lawful _ _ _ c.args.row.now.lookup.now c.requires.lengths c.loop-branch.branch (omega arith) c.loop-branch.quotient c.loop-branch.invariant
